use Rattle.std.proofs.Common.{◌≡◌, ℕ, ◌+◌, ◌-◌, get_or, length}
use Rattle.derivation_text.proofs.place_list.reach.Given as goal

abbrev pub invariant-loop-numbers : goal.invariant-loop-numbers
invariant-loop-numbers l = (p : ℕ) → get_or l.numbers.items p 0 ≡ get_or l.initial.numbers.items p 0

abbrev pub decreases-loop-numbers : goal.decreases-loop-numbers
decreases-loop-numbers l = (l.place + 1) - length l.numbers.items
