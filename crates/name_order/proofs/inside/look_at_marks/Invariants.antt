use Rattle.std.proofs.Common.{◌≡◌, ◌≤◌, ◌||◌, map, drop}
use Rattle.calculus.specs.Ground.{marks_tree}
use Rattle.conversion_theory.specs.Turns.{Name, names_of_marks}
use Rattle.formula_core.specs.GroundLists.{the_mark, the_marks}
use Rattle.name_order.specs.ByNumber.Inside.{has, AreNormalNames}
use Rattle.name_order.specs.ByNumber.Seeing.{sees}
use Rattle.tableau_core.specs.Numbered.Ahead.{bound}
use Rattle.name_order.proofs.inside.look_at_marks.Given as goal

abbrev pub invariant-loop-mark : goal.invariant-loop-mark
invariant-loop-mark l = record {
  normal : AreNormalNames l.table l.search.names.keys;
  bound : bound l.search.ahead.keys ≤ l.fn.list.0;
  seen : (n : Name) → (sees l.table l.search n || has n (names_of_marks (marks_tree (map (the_mark l.table) (drop l.mark-index l.marks))))) ≡ (sees l.table l.initial.search n || has n (names_of_marks (marks_tree (the_marks l.table l.fn.list))));
}
