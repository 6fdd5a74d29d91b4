-- `migrate FILE DERIVATION`: a derivation of either version in version 2.
use Rattle.std.specs.Prelude.{⊤, ℕ, List, Option}
use Rattle.cop_base.specs.Outside.{Files}
use Rattle.calculus.specs.declared.fault.CheckFault.{CheckFault}
use Rattle.calculus.specs.Calculus.{Derives}
use Rattle.calculus.specs.Derivations.{Derivation}
use Rattle.calculus.specs.Judgement as judgement
use Rattle.calculus.specs.Syntax.{Problem}
use Rattle.calculus.specs.Versions.{IsTextIn}
use Rattle.calculus.specs.declared.version.Version.TheVariants.{Two}
use Rattle.command_line.specs.Table.{Word}
use Rattle.derivation_check.specs.Only.{IsOnlyVersionJudgement}
use Rattle.leancop_top.specs.Accepted.{IsAcceptedIn}
use Rattle.leancop_top.specs.Commands.Check.{IsJudgedIn}
use Rattle.leancop_top.specs.Derived.{IsTheorem}
use Rattle.leancop_top.specs.SecondFile.{FetchEnds}
use Rattle.leancop_top.specs.Statuses.{status_line}
use Rattle.leancop_top.specs.declared.status.Status.{Status}
use Rattle.leancop_top.specs.declared.status.Status.TheVariants.{Migrated, Rejected}

-- the file's derivation is accepted, and the bytes are its text of version 2, so that they are
-- accepted too
pub record IsMigrated (told : Option Files) (P : Problem) (derivation : Word) (bytes : List ℕ)
    : Type 0 where
  pub given : Derivation
  pub accepted : IsAcceptedIn told P derivation given
  pub derives : Derives P given
  pub text : IsTextIn Two P given bytes
  pub judged : IsOnlyVersionJudgement P bytes judgement.accepted
  pub theorem : IsTheorem P

-- why it ends with a status for the problem that is read, and what is written
pub data MigrateEnds (told : Option Files) (P : Problem) (derivation : Word)
    : Status → List ℕ → Type 0 where
  migrated : (bytes : List ℕ) → IsMigrated told P derivation bytes
      → MigrateEnds told P derivation Migrated bytes
  rejected : (line : ℕ) (fault : CheckFault)
      → IsJudgedIn told P derivation (judgement.rejected line fault)
      → MigrateEnds told P derivation (Rejected line fault) (status_line (Rejected line fault))
  not_fetched : (status : Status) → FetchEnds told derivation status
      → MigrateEnds told P derivation status (status_line status)

-- what decides it for a derivation that the files hold
abbrev pub IsMigrateDecided : Status → Type 0
IsMigrateDecided Migrated = ⊤
IsMigrateDecided (Rejected line fault) = ⊤
IsMigrateDecided _ = ⊥
