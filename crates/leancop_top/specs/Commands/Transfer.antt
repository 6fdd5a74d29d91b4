-- `transfer FILE DERIVATION`: an intuitionistic derivation as one of the problem's translation.
use Rattle.std.specs.Prelude.{◌≡◌, ⊤, ℕ, List, Option}
use Rattle.cop_base.specs.Outside.{Files}
use Rattle.calculus.specs.declared.fault.CheckFault.{CheckFault}
use Rattle.calculus.specs.Derivations.{Derivation}
use Rattle.calculus.specs.Judgement as judgement
use Rattle.calculus.specs.Syntax.{Problem}
use Rattle.calculus.specs.Translation.{translated_problem}
use Rattle.calculus.specs.declared.version.Version.TheVariants.{One}
use Rattle.command_line.specs.Table.{Word}
use Rattle.leancop_top.specs.Accepted.{IsAcceptedIn}
use Rattle.leancop_top.specs.Commands.Check.{IsJudgedIn}
use Rattle.leancop_top.specs.Derived.{IsDerivation}
use Rattle.leancop_top.specs.SecondFile.{FetchEnds}
use Rattle.leancop_top.specs.Statuses.{status_line}
use Rattle.leancop_top.specs.Translating.{IsTranslatable, TranslatingEnds}
use Rattle.leancop_top.specs.declared.status.Status.{Status}
use Rattle.leancop_top.specs.declared.status.Status.TheVariants.{Transferred, Rejected}
use Rattle.leancop_top.specs.declared.status.Status.TheVariants.{NestingTooDeep, FormulaTooLarge}

-- the bytes are the version 1 text of a derivation of the translated problem, with the limit of the given one
pub record IsTransferred (told : Option Files) (P : Problem) (derivation : Word) (bytes : List ℕ)
    : Type 0 where
  pub given : Derivation
  pub accepted : IsAcceptedIn told P derivation given
  pub translatable : IsTranslatable P
  pub written : IsDerivation One (translated_problem P) given.limit bytes

-- the derivation is accepted, but the problem is not translated
pub record IsNotTranslated (told : Option Files) (P : Problem) (derivation : Word) (status : Status)
    : Type 0 where
  pub given : Derivation
  pub accepted : IsAcceptedIn told P derivation given
  pub refused : TranslatingEnds P status

-- why it ends with a status for the problem that is read, and what is written
pub data TransferEnds (told : Option Files) (P : Problem) (derivation : Word)
    : Status → List ℕ → Type 0 where
  transferred : (bytes : List ℕ) → IsTransferred told P derivation bytes
      → TransferEnds told P derivation Transferred bytes
  not_translated : (status : Status) → IsNotTranslated told P derivation status
      → TransferEnds told P derivation status (status_line status)
  rejected : (line : ℕ) (fault : CheckFault)
      → IsJudgedIn told P derivation (judgement.rejected line fault)
      → TransferEnds told P derivation (Rejected line fault) (status_line (Rejected line fault))
  not_fetched : (status : Status) → FetchEnds told derivation status
      → TransferEnds told P derivation status (status_line status)

-- what decides the transfer of a derivation that the files hold
abbrev pub IsTransferDecided : Status → Type 0
IsTransferDecided Transferred = ⊤
IsTransferDecided (Rejected line fault) = ⊤
IsTransferDecided NestingTooDeep = ⊤
IsTransferDecided FormulaTooLarge = ⊤
IsTransferDecided _ = ⊥
