-- `prove FILE`: the derivation of a problem.
use Rattle.std.specs.Prelude.{◌≡◌, ◌≤◌, ℕ, List, Option, Some, Ok}
use Rattle.cop_base.specs.Outside.{Files}
use Rattle.calculus.specs.Propositional.{IsPropositional, IsTautology}
use Rattle.calculus.specs.Syntax.{Problem}
use Rattle.calculus.specs.Tableaux.{HasClosed}
use Rattle.command_line.specs.CommandLine.{Bounds, ProblemFile}
use Rattle.calculus.specs.declared.version.Version.{Version}
use Rattle.decision_theory.specs.Decision.{proposition_count}
use Rattle.leancop_top.specs.Derived.{IsTrimmedDerivation}
use Rattle.leancop_top.specs.Reading.{Reading}
use Rattle.leancop_top.specs.Statuses.{status_line}
use Rattle.leancop_top.specs.TableauSearch.{IsLimit, SearchEnds, Suffices, SufficesForCut}
use Rattle.leancop_top.specs.declared.status.Status.{Status}
use Rattle.leancop_top.specs.declared.status.Status.TheVariants.{Derived, Exhausted, NoTableau}

-- some tableau is closed within the limit, there is a reason for this limit, and the bytes are the
-- text of this version of a derivation with it
pub record IsDerived (P : Problem) (b : Bounds) (version : Version) (limit : ℕ) (bytes : List ℕ)
    : Type 0 where
  pub closed : HasClosed P limit
  pub limit_is : IsLimit P b limit
  pub written : IsTrimmedDerivation version P limit bytes

-- why it ends with a status for the problem that is read, and what is written
pub data ProveEnds (P : Problem) (b : Bounds) (version : Version) : Status → List ℕ → Type 0 where
  derived : (limit : ℕ) (bytes : List ℕ) → IsDerived P b version limit bytes
      → ProveEnds P b version (Derived limit) bytes
  fruitless : (status : Status) → SearchEnds P b status
      → ProveEnds P b version status (status_line status)

-- the files hold the problem, and the bounds suffice for it
pub record IsProvable (told : Option Files) (p : ProblemFile) (b : Bounds) : Type 0 where
  pub files : Files
  pub tells : told ≡ Some files
  pub problem : Problem
  pub read : Reading files p (Ok problem)
  pub suffices : Suffices problem b

-- a derivation is printed exactly where this holds
abbrev pub IsDecided : Type 0 → Status → Type 0
IsDecided holds (Derived limit) = holds
IsDecided holds (Exhausted limit) = ¬ holds
IsDecided holds (NoTableau limit) = ¬ holds
IsDecided holds _ = ⊥

-- then it is decided whether some tableau is closed within the greatest limit; and where that limit
-- is at least the number of a propositional problem's propositions, whether it is a tautology
pub record IsProblemDecided (P : Problem) (b : Bounds) (status : Status) : Type 0 where
  pub closed : IsDecided (HasClosed P b.limit) status
  pub tautology :
      IsPropositional P → proposition_count P.formula ≤ b.limit → IsDecided (IsTautology P) status

-- the files hold the problem, and the bounds suffice to find its least cut, at this limit
pub record IsProvableByCut (told : Option Files) (p : ProblemFile) (b : Bounds) (limit : ℕ)
    : Type 0 where
  pub files : Files
  pub tells : told ≡ Some files
  pub problem : Problem
  pub read : Reading files p (Ok problem)
  pub suffices : SufficesForCut problem b limit

-- then a derivation with this limit is found
abbrev pub IsDerivedAt : ℕ → Status → Type 0
IsDerivedAt limit (Derived d) = d ≡ limit
IsDerivedAt limit _ = ⊥
