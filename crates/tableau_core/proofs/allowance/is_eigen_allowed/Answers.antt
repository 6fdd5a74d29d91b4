use Rattle.std.proofs.Common.{ap, map, ◌∙◌}
use Rattle.formula_core.specs.GroundLists.{the_value, the_values}
use Rattle.tableau_core.specs.Numbered.SpotView.{the_mark_at}
use Rattle.tableau_core.proofs.AllowanceLaws.{eigen-allowed}
use Rattle.tableau_core.proofs.allowance.is_eigen_allowed.Goals as goal

pub returns : goal.returns
returns c = eigen-allowed c.args.problem.now (map (the_mark_at c.args.table.now) c.args.at.now) (map (the_mark_at c.args.table.now) c.deref.result.now) c.args.p.0 (the_values c.args.table.now c.args.values) (map (the_value c.args.table.now) c.values.result.now) c.is_home-allowed.result c.values.ensures.list (ap (map (the_mark_at c.args.table.now)) c.deref.ensures.value ∙ c.in_ok-home.ensures) c.is_home-allowed.ensures
