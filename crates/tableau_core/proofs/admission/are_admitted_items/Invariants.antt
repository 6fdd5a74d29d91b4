use Rattle.std.proofs.Common.{◌≡◌, map, drop}
use Rattle.calculus.specs.Ground.{values_tree}
use Rattle.calculus.specs.Skolem.{are_admitted_values}
use Rattle.formula_core.specs.GroundLists.{the_value, the_values}
use Rattle.tableau_core.proofs.admission.are_admitted_items.Given as goal

abbrev pub invariant-loop-value : goal.invariant-loop-value
invariant-loop-value l = are_admitted_values l.problem (values_tree (map (the_value l.table) (drop l.value-index l.values))) ≡ are_admitted_values l.problem (values_tree (the_values l.table l.fn.list))
