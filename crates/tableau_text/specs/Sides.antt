-- The parts of the lines behind the head.
use Rattle.std.specs.Prelude.{◌≡◌, ℕ, List, ◌∷◌, ◌++◌, map, IsTrue, decimal}
use Rattle.calculus.specs.declared.sign.Side.{Side}
use Rattle.calculus.specs.Syntax.{Symbol}
use Rattle.calculus.specs.Text.{is_number}
use Rattle.calculus.specs.TableauText.{Chosen, side_text, sides_text, chosen_text, chosen_is_written}

-- no side follows
abbrev pub NoSide : List ℕ → Type 0
NoSide rest = (s : Side) (more : List ℕ) → ¬ (rest ≡ side_text s ∷ more)

-- the bytes begin with the letters of these sides, behind which none stands
pub record AreLettersOn (bytes : List ℕ) (ss : List Side) (rest : List ℕ) : Type 0 where
  pub text : bytes ≡ map side_text ss ++ rest
  pub stops : NoSide rest

-- the bytes begin with these sides, before a space
abbrev pub AreSidesOn : List ℕ → List Side → List ℕ → Type 0
AreSidesOn bytes ss rest = bytes ≡ sides_text ss ++ 32 ∷ rest

-- the bytes begin with the place of a literal, before a space
pub record IsPlaceOn (bytes : List ℕ) (k : ℕ) (rest : List ℕ) : Type 0 where
  pub small : IsTrue (is_number k)
  pub text : bytes ≡ decimal k ++ 32 ∷ rest

-- the bytes are a place and an instance
pub record IsExtensionText (S : List Symbol) (bytes : List ℕ) (k : ℕ) (i : Chosen) : Type 0 where
  pub small : IsTrue (is_number k)
  pub written : IsTrue (chosen_is_written S i)
  pub text : bytes ≡ decimal k ++ 32 ∷ chosen_text S i
