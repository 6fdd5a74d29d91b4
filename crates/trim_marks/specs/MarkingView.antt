-- What the second walk keeps.
use Rattle.std.specs.Prelude.{◌≡◌, ◌<◌, ◌≤◌, ℕ, List, length, reverse, get_or, false}
use Rattle.trim_theory.specs.Marking.{State, state, counts_of, no_mark}
use Rattle.trim_theory.specs.declared.pass.Mark.{Mark}
use Rattle.trim_marks.specs.declared.marking.Marking.{Marking}

abbrev pub the_state : Marking → State
the_state m = state (counts_of m.counts.items) (reverse m.saved.items) (reverse m.starts.items) m.done.items

-- up to the place that is given for a place no step behind that place is left
pub record IsSkipping (skips : List ℕ) (done : List Mark) : Type 0 where
  pub long : length skips ≡ length done
  pub within : (i : ℕ) → get_or skips i 0 ≤ length done
  pub none_left : (i k : ℕ) → i < k → k < get_or skips i 0 → (get_or done k no_mark).is_left ≡ false
