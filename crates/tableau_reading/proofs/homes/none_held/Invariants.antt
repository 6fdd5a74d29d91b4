use Rattle.std.proofs.Common.{◌≡◌, ℕ, Some, length}
use Rattle.std.specs.Prelude.{slice_get}
use Rattle.tableau_reading.proofs.homes.none_held.Given as goal

abbrev pub invariant-loop-cell : goal.invariant-loop-cell
invariant-loop-cell l = (length l.first.items ≡ l._cell) × ((v k : ℕ) → ¬ (slice_get l.first.items v ≡ Some (Some k)))
