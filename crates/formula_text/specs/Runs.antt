-- Runs of bytes that pass a test, and numbers at a place of a text.
use Rattle.std.specs.Prelude.{ℕ, ◌≤◌, List, length, take, drop, Bool, IsTrue, decimal, ◌∷◌}
use Rattle.std.specs.List.{list_all}
use Rattle.calculus.specs.DerivationText.{is_name_number}
use Rattle.calculus.specs.Text.{StopsAt, StandsAt, is_digit, is_number}

-- the longest run at the beginning of a list
pub record IsRun (test : ℕ → Bool) (bytes : List ℕ) (n : ℕ) : Type 0 where
  pub within : n ≤ length bytes
  pub passes : IsTrue (list_all test (take n bytes))
  pub stops : StopsAt test (drop n bytes)

-- a number of 32 bits in decimal, before no digit
pub record IsNumberAt (bytes : List ℕ) (from to n : ℕ) : Type 0 where
  pub small : IsTrue (is_number n)
  pub stands : StandsAt bytes from to (decimal n)
  pub ends : StopsAt is_digit (drop to bytes)

-- `$$`, a letter and a number from 1, before no digit
pub record IsNumberedAt (bytes : List ℕ) (from to letter n : ℕ) : Type 0 where
  pub written : IsTrue (is_name_number n)
  pub stands : StandsAt bytes from to (36 ∷ 36 ∷ letter ∷ decimal n)
  pub ends : StopsAt is_digit (drop to bytes)
