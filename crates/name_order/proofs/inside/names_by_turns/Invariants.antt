use Rattle.std.proofs.Common.{◌≡◌, ◌||◌, drop}
use Rattle.std.specs.List.{flat_map}
use Rattle.conversion_theory.specs.Turns.{Name}
use Rattle.name_order.specs.ByNumber.Inside.{has, AreNormalNames}
use Rattle.name_order.specs.ByNumber.ReachedView.{the_all}
use Rattle.name_order.specs.ByNumber.Seeing.{sees}
use Rattle.name_order.specs.Mentioned.{names_in_turn}
use Rattle.name_order.proofs.inside.names_by_turns.Given as goal

abbrev pub invariant-loop-turn : goal.invariant-loop-turn
invariant-loop-turn l = record {
  normal : AreNormalNames l.table l.search.names.keys;
  seen : (n : Name) → (sees l.table l.search n || has n (flat_map names_in_turn (the_all l.table (drop l.turn-index l.reached)))) ≡ has n (flat_map names_in_turn (the_all l.table l.reached));
}
