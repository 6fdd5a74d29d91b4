use Rattle.std.proofs.Common.{◌≡◌, ℕ, Some, Contains, take, slice_get}
use Rattle.sequent_convert.proofs.turns.awaited.Given as goal

abbrev pub invariant-loop-earlier : goal.invariant-loop-earlier
invariant-loop-earlier l = ((j : ℕ) → slice_get l.source.named.now.parents l.turn ≡ Some (Some j) → Contains l.branch.done j) × ((j : ℕ) → Contains (take l.earlier-index l.earlier-items) j → Contains l.branch.done j)
