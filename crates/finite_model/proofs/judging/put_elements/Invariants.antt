use Rattle.std.proofs.Common.{◌≡◌, ◌-◌, ◌<◌, ℕ, get_or, length}
use Rattle.finite_model.proofs.judging.put_elements.Given as goal

abbrev pub invariant-loop-i : goal.invariant-loop-i
invariant-loop-i l = (l.element ≡ 255 - l.i) × (length l.all ≡ length l.fn.all) × ((k : ℕ) → k < l.i → get_or l.all k 0 ≡ 255 - k)
