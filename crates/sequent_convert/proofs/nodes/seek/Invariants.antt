use Rattle.std.proofs.Common.{◌≡◌, ◌<◌, ℕ, Some, map, slice_get}
use Rattle.conversion_theory.specs.Branches.{Item}
use Rattle.name_order.specs.ByNumber.TurnView.{the_turn}
use Rattle.sequent_convert.specs.ByNumber.NodeView.{the_node}
use Rattle.sequent_convert.specs.Working.{IsOn}
use Rattle.sequent_convert.proofs.nodes.seek.Given as goal

abbrev pub invariant-loop-i : goal.invariant-loop-i
invariant-loop-i l = (n : ℕ) (i : Item) → n < l.i → slice_get (map (the_node l.table) l.nodes) n ≡ Some i → IsOn (the_turn l.table l.turn) i → ⊥
