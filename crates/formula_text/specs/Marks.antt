-- Characters at a place of a text.
use Rattle.std.specs.Prelude.{◌≡◌, ℕ, List, [], ◌∷◌, ◌++◌, true, drop, IsTrue}
use Rattle.calculus.specs.Derivations.{Mark, Label}
use Rattle.calculus.specs.DerivationText.{label_is_written, mark_is_written}
use Rattle.calculus.specs.Text.{StandsAt, StopsAt, is_digit, mark_text}
use Rattle.formula_text.specs.Rests.{marks_text}

-- a character, before no digit
pub record IsMarkAt (bytes : List ℕ) (from to : ℕ) (m : Mark) : Type 0 where
  pub written : IsTrue (mark_is_written m)
  pub stands : StandsAt bytes from to (mark_text m)
  pub ends : StopsAt is_digit (drop to bytes)

-- what stands after the opening bracket of a label, the closing one included
pub record IsInnerAt (bytes : List ℕ) (from to : ℕ) (w : Label) : Type 0 where
  pub written : IsTrue (label_is_written w)
  pub stands : drop from bytes ≡ marks_text w true ++ 93 ∷ drop to bytes

-- the same for a label that is not the root
pub record AreMarksAt (bytes : List ℕ) (from to : ℕ) (w : Label) : Type 0 where
  pub first : Mark
  pub others : Label
  pub all : w ≡ first ∷ others
  pub written : IsTrue (label_is_written w)
  pub stands : drop from bytes ≡ marks_text w true ++ 93 ∷ drop to bytes

-- characters with a comma after each
abbrev pub front_text : Label → List ℕ
front_text [] = []
front_text (m ∷ w) = mark_text m ++ 44 ∷ front_text w
