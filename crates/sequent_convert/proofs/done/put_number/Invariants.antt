-- Zeros at new places change no number.
use Rattle.std.proofs.Common.{◌≡◌, ℕ, ◌+◌, ◌-◌, length, slice_index}
use Rattle.sequent_convert.proofs.done.put_number.Given as goal

abbrev pub invariant-loop-numbers : goal.invariant-loop-numbers
invariant-loop-numbers l = (p : ℕ) → slice_index l.numbers.items p ≡ slice_index l.initial.numbers.items p

abbrev pub decreases-loop-numbers : goal.decreases-loop-numbers
decreases-loop-numbers l = (l.place + 1) - length l.numbers.items
