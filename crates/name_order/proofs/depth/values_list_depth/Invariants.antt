use Rattle.std.proofs.Common.{◌≡◌, ◌≤◌, ◌+◌, length, max, map, drop}
use Rattle.calculus.specs.Ground.{values_tree}
use Rattle.conversion_theory.specs.Depths.{values_depth}
use Rattle.formula_core.specs.GroundLists.{the_value, the_values}
use Rattle.name_order.proofs.depth.values_list_depth.Given as goal

abbrev pub invariant-loop-value : goal.invariant-loop-value
invariant-loop-value l = record {
  deepest : max l.depth (values_depth (values_tree (map (the_value l.table) (drop l.value-index l.values)))) ≡ values_depth (values_tree (the_values l.table l.fn.list));
  most : l.depth ≤ length l.known + 1;
}
