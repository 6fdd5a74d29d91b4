-- Soundness of the sequent calculus: what is claimed of a problem.
use Rattle.std.specs.Prelude.{◌≡◌, ℕ, List, [], false, IsTrue}
use Rattle.calculus.specs.Syntax.{Term, Problem}
use Rattle.calculus.specs.Derivations.{Derivation}
use Rattle.calculus.specs.Calculus.{Derives}
use Rattle.calculus.specs.DerivationText.{is_printable}
use Rattle.calculus.specs.Judgement.{accepted}
use Rattle.calculus.specs.Structures.{Structure, is_structure, is_true}
use Rattle.calculus.specs.Models.{Model, IsModel}
use Rattle.calculus.specs.VersionJudgement.{IsVersionJudgement}

-- no derivation that is printable for the problem derives it
abbrev pub HasNoDerivation : Problem → Type 0
HasNoDerivation P = (d : Derivation) → IsTrue (is_printable P d) → ¬ Derives P d

-- no bytes are judged as a derivation of the problem, in either version of the text
abbrev pub IsNeverAccepted : Problem → Type 0
IsNeverAccepted P = (bytes : List ℕ) → ¬ IsVersionJudgement P bytes accepted

-- the formula is true at the root of each structure of the problem's setting with worlds and
-- elements of these types
pub record IsTrueOver (W E : Type 0) (P : Problem) : Type 0 where
  pub at_root :
      (M : Model W E) → IsModel P M → (names : Term → E)
      → IsTrue (M.truth names P.formula [] M.root)

-- The formula is true at the root of each structure of the problem's setting: of each finite one,
-- where truth is computed, and of each whose worlds and elements are natural numbers. Of these
-- there may be infinitely many: by Loewenheim and Skolem a formula that is false in some structure
-- is false in one of them
pub record IsTrueInStructures (P : Problem) : Type 0 where
  pub at_root : (S : Structure) → IsTrue (is_structure P S) → IsTrue (is_true P S)
  pub over_numbers : IsTrueOver ℕ ℕ P

-- what has a derivation, or is accepted as having one, is true in each structure; and where a
-- finite structure of the problem's setting makes its formula false at the root, the problem has no
-- derivation, and none is accepted
pub record IsSound (P : Problem) : Type 0 where
  pub derived_true :
      (d : Derivation) → IsTrue (is_printable P d) → Derives P d → IsTrueInStructures P
  pub accepted_true :
      (bytes : List ℕ) → IsVersionJudgement P bytes accepted → IsTrueInStructures P
  pub underived :
      (S : Structure) → IsTrue (is_structure P S) → is_true P S ≡ false → HasNoDerivation P
  pub never_accepted :
      (S : Structure) → IsTrue (is_structure P S) → is_true P S ≡ false → IsNeverAccepted P
