use Rattle.std.proofs.Common.{ap, map, ◌∙◌}
use Rattle.formula_core.specs.GroundLists.{the_marks}
use Rattle.tableau_core.specs.Numbered.SpotView.{the_mark_at}
use Rattle.tableau_core.proofs.AllowanceLaws.{own-allowed}
use Rattle.tableau_core.proofs.allowance.is_own_allowed.Goals as goal

pub returns : goal.returns
returns c k = own-allowed c.args.problem.now (map (the_mark_at c.args.table.now) c.args.at.now) (the_marks c.args.table.now c.args.label) (map (the_mark_at c.args.table.now) c.deref.result.now) k c.is_home-allowed.result (ap (map (the_mark_at c.args.table.now)) c.deref.ensures.value ∙ c.in_ok-home.ensures c.args.table.now ∙ c.marks.ensures.list) c.is_home-allowed.ensures
