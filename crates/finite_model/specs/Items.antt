-- Numbers that stand in a line with a space before each.
use Rattle.std.specs.Prelude.{◌≡◌, ℕ, suc, ◌≤◌, ◌<◌, List, ◌∷◌, ◌++◌, length, drop, decimal}
use Rattle.calculus.specs.Text.{StopsAt, is_digit}
use Rattle.calculus.specs.StructureText.{numbers_text}

-- a number from 0 that is written from 1 behind a space
pub record IsItemAt (bytes : List ℕ) (from to x : ℕ) : Type 0 where
  pub there : drop from bytes ≡ 32 ∷ (decimal (suc x) ++ drop to bytes)
  pub stops : StopsAt is_digit (drop to bytes)
  pub onward : from < to
  pub within : to ≤ length bytes

-- no number below a bound stands there with others behind it
abbrev pub NoItemAt : List ℕ → ℕ → ℕ → Type 0
NoItemAt bytes place most = (x : ℕ) (xs : List ℕ) → x < most → ¬ (drop place bytes ≡ numbers_text (x ∷ xs))
