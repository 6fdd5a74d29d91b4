use Rattle.std.proofs.Common.{ap, subst, sym}
use Rattle.std.specs.Option.{option_map}
use Rattle.logic_rules.specs.SettingView.{the_setting}
use Rattle.leancop_c.specs.Told.{IsTold, no_setting}
use Rattle.leancop_c.proofs.judging.judge_where.Goals as goal

pub returns-in-None : goal.returns-in-None
returns-in-None c =
    subst (IsTold (option_map the_setting c.args.setting) c.args.problem.now c.args.derivation.now) (sym c.status_alone.ensures)
    (no_setting (ap (option_map the_setting) c.in-None.is))
