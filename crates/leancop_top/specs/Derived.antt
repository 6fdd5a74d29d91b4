-- What is said of a derivation that is printed, or accepted.
use Rattle.std.specs.Prelude.{◌≡◌, ℕ, List, IsTrue}
use Rattle.calculus.specs.Syntax.{Problem}
use Rattle.calculus.specs.Derivations.{Derivation}
use Rattle.calculus.specs.Calculus.{Derives}
use Rattle.calculus.specs.DerivationText.{is_printable}
use Rattle.calculus.specs.Judgement.{accepted}
use Rattle.calculus.specs.Propositional.{IsPropositional, IsTautology}
use Rattle.calculus.specs.Soundness.{IsTrueInStructures}
use Rattle.calculus.specs.Tableaux.{HasClosed}
use Rattle.calculus.specs.Versions.{IsTextIn}
use Rattle.calculus.specs.declared.version.Version.{Version}
use Rattle.derivation_check.specs.Only.{IsOnlyVersionJudgement}
use Rattle.trim_theory.specs.Trims.{IsTrim}

-- some tableau is closed within some limit
abbrev pub HasTableau : Problem → Type 0
HasTableau P = (limit : ℕ) × HasClosed P limit

-- the formula is true in each structure of the setting; that of a propositional problem is a
-- tautology, true whatever truth values its propositions have; and some tableau is closed within
-- some limit, so that a search whose bounds suffice and reach that limit finds one
pub record IsTheorem (P : Problem) : Type 0 where
  pub true_in_structures : IsTrueInStructures P
  pub tautology : IsPropositional P → IsTautology P
  pub closed : HasTableau P

-- the bytes are the text of this version of a derivation that derives the problem and carries the
-- limit, and so their judgement is acceptance
pub record IsDerivation (version : Version) (P : Problem) (limit : ℕ) (bytes : List ℕ) : Type 0 where
  pub derivation : Derivation
  pub carries : derivation.limit ≡ limit
  pub derives : Derives P derivation
  pub text : IsTextIn version P derivation bytes
  pub judged : IsOnlyVersionJudgement P bytes accepted
  pub theorem : IsTheorem P

-- the same of a derivation each step of which is needed: an entry that it adds is referred to below
-- it, and on each side of a fork the one that it adds there
pub record IsTrimmedDerivation (version : Version) (P : Problem) (limit : ℕ) (bytes : List ℕ) : Type 0 where
  pub printed : IsDerivation version P limit bytes
  pub trim : IsTrim P printed.derivation

-- what is printed: it derives the problem, carries the limit, and each of its steps is needed
pub record IsTrimmed (P : Problem) (limit : ℕ) (d : Derivation) : Type 0 where
  pub derives : Derives P d
  pub printable : IsTrue (is_printable P d)
  pub carries : d.limit ≡ limit
  pub trim : IsTrim P d
