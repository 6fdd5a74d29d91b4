use Rattle.std.proofs.Common.{ap, map, sym, ◌∙◌}
use Rattle.calculus.specs.Syntax.{Setting}
use Rattle.formula_core.specs.GroundLists.{the_g_term}
use Rattle.tableau_core.specs.Numbered.SpotView.{the_mark_at}
use Rattle.tableau_core.proofs.Numbered.KnownLaws.{constant-term}
use Rattle.tableau_core.proofs.allowance.is_allowed.Goals as goal

pub returns-in-Constant : goal.returns-in-Constant
returns-in-Constant c = constant-term c.args.problem.now (map (the_mark_at c.args.table.now) c.args.at.now) (the_g_term c.args.table.now c.args.term) (sym c.in-Constant.is ∙ c.domains.ensures ∙ ap (λ (s : Setting). s.domains) c.setting.ensures.setting)
