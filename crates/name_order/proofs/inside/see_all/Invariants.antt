use Rattle.std.proofs.Common.{◌≡◌, ◌||◌, map, drop}
use Rattle.conversion_theory.specs.Turns.{Name}
use Rattle.formula_core.specs.GroundLists.{the_value}
use Rattle.name_order.specs.ByNumber.Inside.{has, AreNormalNames}
use Rattle.name_order.specs.ByNumber.Seeing.{sees}
use Rattle.name_order.specs.Mentioned.{names_in}
use Rattle.name_order.proofs.inside.see_all.Given as goal

abbrev pub invariant-loop-value : goal.invariant-loop-value
invariant-loop-value l = record {
  normal : AreNormalNames l.table l.search.names.keys;
  seen : (n : Name) → (sees l.table l.search n || has n (names_in (map (the_value l.table) (drop l.value-index l.values)))) ≡ (sees l.table l.initial.search n || has n (names_in (map (the_value l.table) l.values)));
}
