-- Numbers of the members of a list, by which a member is found at once.
use Rattle.std.specs.Prelude.{◌≡◌, ℕ, suc, List, Some, slice_get, slice_index}

-- each member's number in the list, counted from 1, stands at its place
abbrev pub KeepsNumbers : List ℕ → List ℕ → Type 0
KeepsNumbers numbers members = (i k : ℕ) → slice_get members i ≡ Some k → slice_index numbers k ≡ suc i
