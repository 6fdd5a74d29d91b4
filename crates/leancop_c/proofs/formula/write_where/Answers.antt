use Rattle.std.proofs.Common.{ap}
use Rattle.std.specs.Option.{option_map}
use Rattle.logic_rules.specs.SettingView.{the_setting}
use Rattle.leancop_c.specs.Told.{without_setting}
use Rattle.leancop_c.proofs.formula.write_where.Goals as goal

pub returns-in-None : goal.returns-in-None
returns-in-None c = without_setting (ap (option_map the_setting) c.in-None.is)
