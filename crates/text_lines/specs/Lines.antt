-- The lines of a text.
use Rattle.std.specs.Prelude.{◌≡◌, ℕ, ◌≤◌, List, ◌∷◌, ◌++◌, length, drop}
use Rattle.std.specs.List.{flat_map}
use Rattle.calculus.specs.FirstWrong.{line_bytes, whole_lines}

-- a whole line stands at the place `from`, and `to` is the place after its line feed
pub record IsLineAt (bytes : List ℕ) (from to : ℕ) (line : List ℕ) : Type 0 where
  pub within : to ≤ length bytes
  pub whole : whole_lines (drop from bytes) ≡ line ∷ whole_lines (drop to bytes)
  pub text : drop from bytes ≡ line ++ 10 ∷ drop to bytes

-- the bytes begin with these lines, and are read up to this place
pub record AreRead (bytes : List ℕ) (lines : List (List ℕ)) (place : ℕ) : Type 0 where
  pub within : place ≤ length bytes
  pub whole : whole_lines bytes ≡ lines ++ whole_lines (drop place bytes)
  pub text : bytes ≡ flat_map line_bytes lines ++ drop place bytes
