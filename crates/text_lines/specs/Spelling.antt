-- What the parts of a line spell.
use Rattle.std.specs.Prelude.{◌≡◌, ℕ, List, ◌++◌, Bool, IsTrue, decimal}
use Rattle.calculus.specs.Derivations.{Label}
use Rattle.calculus.specs.DerivationText.{is_limit, is_name_number, label_is_written}
use Rattle.calculus.specs.Text.{Ends, StopsAt, is_digit, is_number, label_text}

-- the bytes are the text of a value, which can be written
pub record Spells (test : Bool) (text bytes : List ℕ) : Type 0 where
  pub written : IsTrue test
  pub same : bytes ≡ text

-- the bytes begin with a number, before no digit
pub record IsNumberBefore (bytes : List ℕ) (n : ℕ) (rest : List ℕ) : Type 0 where
  pub small : IsTrue (is_number n)
  pub all : bytes ≡ decimal n ++ rest
  pub stops : StopsAt is_digit rest

-- the bytes begin with a label, before an ending byte or nothing
pub record IsLabelBefore (bytes : List ℕ) (w : Label) (rest : List ℕ) : Type 0 where
  pub written : IsTrue (label_is_written w)
  pub all : bytes ≡ label_text w ++ rest
  pub ends : Ends rest

abbrev pub IsNumber : List ℕ → ℕ → Type 0
IsNumber bytes n = Spells (is_number n) (decimal n) bytes

abbrev pub IsNameNumber : List ℕ → ℕ → Type 0
IsNameNumber bytes n = Spells (is_name_number n) (decimal n) bytes

abbrev pub IsLabel : List ℕ → Label → Type 0
IsLabel bytes w = Spells (label_is_written w) (label_text w) bytes

abbrev pub IsLimit : List ℕ → ℕ → Type 0
IsLimit bytes n = Spells (is_limit n) (decimal n) bytes
