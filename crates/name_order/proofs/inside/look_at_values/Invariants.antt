use Rattle.std.proofs.Common.{◌≡◌, ◌≤◌, ◌||◌, map, drop}
use Rattle.calculus.specs.Ground.{values_tree}
use Rattle.conversion_theory.specs.Turns.{Name, names_of_values}
use Rattle.formula_core.specs.GroundLists.{the_value, the_values}
use Rattle.name_order.specs.ByNumber.Inside.{has, AreNormalNames}
use Rattle.name_order.specs.ByNumber.Seeing.{sees}
use Rattle.tableau_core.specs.Numbered.Ahead.{bound}
use Rattle.name_order.proofs.inside.look_at_values.Given as goal

abbrev pub invariant-loop-value : goal.invariant-loop-value
invariant-loop-value l = record {
  normal : AreNormalNames l.table l.search.names.keys;
  bound : bound l.search.ahead.keys ≤ l.fn.list.0;
  seen : (n : Name) → (sees l.table l.search n || has n (names_of_values (values_tree (map (the_value l.table) (drop l.value-index l.values))))) ≡ (sees l.table l.initial.search n || has n (names_of_values (values_tree (the_values l.table l.fn.list))));
}
