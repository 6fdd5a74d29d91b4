use Rattle.std.proofs.Common.{◌≡◌, ◌⊎◌, ◌≤◌, ℕ, Contains}
use Rattle.sequent_convert.specs.ByNumber.RunView.{the_source}
use Rattle.sequent_convert.specs.State.{IsAwaitedBy}
use Rattle.sequent_convert.proofs.turns.next_turn.Given as goal

abbrev pub invariant-loop-earlier : goal.invariant-loop-earlier
invariant-loop-earlier l = (l.next ≤ l.turn) × (Contains l.branch.done l.next → ⊥) × ((l.turn ≡ l.next) ⊎ ((j : ℕ) × IsAwaitedBy (the_source l.source) l.turn j × (Contains l.branch.done j → ⊥)))

abbrev pub decreases-loop-earlier : goal.decreases-loop-earlier
decreases-loop-earlier l = l.next
