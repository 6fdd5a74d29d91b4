use Rattle.std.proofs.Common.{◌≡◌, max, map, drop}
use Rattle.conversion_theory.specs.Depths.{value_list_depth}
use Rattle.formula_core.specs.GroundLists.{the_value}
use Rattle.name_order.proofs.depth.values_depth.Given as goal

abbrev pub invariant-loop-value : goal.invariant-loop-value
invariant-loop-value l = max l.depth (value_list_depth (map (the_value l.table) (drop l.value-index l.values))) ≡ value_list_depth (map (the_value l.table) l.values)
