use Rattle.std.proofs.Common.{◌≡◌, ◌≤◌, ◌+◌, length, max, map, drop}
use Rattle.calculus.specs.Ground.{marks_tree}
use Rattle.conversion_theory.specs.Depths.{marks_depth}
use Rattle.formula_core.specs.GroundLists.{the_mark, the_marks}
use Rattle.name_order.proofs.depth.marks_list_depth.Given as goal

abbrev pub invariant-loop-mark : goal.invariant-loop-mark
invariant-loop-mark l = record {
  deepest : max l.depth (marks_depth (marks_tree (map (the_mark l.table) (drop l.mark-index l.marks)))) ≡ marks_depth (marks_tree (the_marks l.table l.fn.list));
  most : l.depth ≤ length l.known + 1;
}
