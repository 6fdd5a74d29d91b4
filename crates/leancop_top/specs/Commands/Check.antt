-- `check FILE DERIVATION`: the judgement of a derivation, for the problem or for its translation.
use Rattle.std.specs.Prelude.{◌≡◌, ⊤, ℕ, List, Option, Some, Ok}
use Rattle.cop_base.specs.Outside.{Files, file_in}
use Rattle.calculus.specs.declared.fault.CheckFault.{CheckFault}
use Rattle.calculus.specs.Judgement.{Verdict}
use Rattle.calculus.specs.Judgement as judgement
use Rattle.calculus.specs.Syntax.{Problem}
use Rattle.calculus.specs.Translation.{translated_problem}
use Rattle.command_line.specs.CommandLine.{ProblemFile}
use Rattle.derivation_check.specs.Only.{IsOnlyVersionJudgement}
use Rattle.command_line.specs.Table.{Word}
use Rattle.leancop_top.specs.Derived.{IsTheorem}
use Rattle.leancop_top.specs.Reading.{Reading}
use Rattle.leancop_top.specs.SecondFile.{FetchEnds, HasBytes}
use Rattle.leancop_top.specs.Statuses.{status_line}
use Rattle.leancop_top.specs.Translating.{IsTranslatable, TranslatingEnds}
use Rattle.leancop_top.specs.declared.status.Status.{Status}
use Rattle.leancop_top.specs.declared.status.Status.TheVariants.{Accepted, Rejected}

-- the file's bytes have this judgement as a derivation of the problem, and no other
pub record IsJudgedIn (told : Option Files) (P : Problem) (derivation : Word) (verdict : Verdict)
    : Type 0 where
  pub text : List ℕ
  pub held : HasBytes told derivation text
  pub judged : IsOnlyVersionJudgement P text verdict

-- why it ends with a status for the problem that is read, and what is written
pub data CheckEnds (told : Option Files) (P : Problem) (derivation : Word)
    : Status → List ℕ → Type 0 where
  accepted : IsJudgedIn told P derivation judgement.accepted → IsTheorem P
      → CheckEnds told P derivation Accepted (status_line Accepted)
  rejected : (line : ℕ) (fault : CheckFault)
      → IsJudgedIn told P derivation (judgement.rejected line fault)
      → CheckEnds told P derivation (Rejected line fault) (status_line (Rejected line fault))
  not_fetched : (status : Status) → FetchEnds told derivation status
      → CheckEnds told P derivation status (status_line status)

-- the same with `--as=s4`: the judgement for the translated problem
pub data TranslatedCheckEnds (told : Option Files) (P : Problem) (derivation : Word)
    : Status → List ℕ → Type 0 where
  not_translated : (status : Status) → TranslatingEnds P status
      → TranslatedCheckEnds told P derivation status (status_line status)
  translated : (status : Status) (bytes : List ℕ) → IsTranslatable P
      → CheckEnds told (translated_problem P) derivation status bytes
      → TranslatedCheckEnds told P derivation status bytes

-- the files hold the problem and the derivation
pub record IsCheckable (told : Option Files) (p : ProblemFile) (derivation : Word) : Type 0 where
  pub files : Files
  pub tells : told ≡ Some files
  pub problem : Problem
  pub read : Reading files p (Ok problem)
  pub bytes : List ℕ
  pub given : file_in files derivation ≡ Some bytes

-- and the translation of the problem passes no limit
pub record IsCheckableTranslated (told : Option Files) (p : ProblemFile) (derivation : Word)
    : Type 0 where
  pub checkable : IsCheckable told p derivation
  pub translatable : IsTranslatable checkable.problem

-- then the derivation is judged
abbrev pub IsJudged : Status → Type 0
IsJudged Accepted = ⊤
IsJudged (Rejected line fault) = ⊤
IsJudged _ = ⊥
