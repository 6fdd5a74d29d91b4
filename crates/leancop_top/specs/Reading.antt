-- How reading a problem ends.
use Rattle.std.specs.Prelude.{◌≡◌, ⊤, List, ℕ, Option, IfSome, Result, Ok, Err}
use Rattle.cop_base.specs.Outside.{Files}
use Rattle.cop_base.specs.Reads as seen
use Rattle.calculus.specs.Syntax.{Problem, Setting}
use Rattle.command_line.specs.CommandLine.{ProblemFile}
use Rattle.problem_build.specs.Building.{IsProblemOf, WalkFetches}
use Rattle.problem_build.specs.Refusals.{Refusal, missing, input_too_large, nesting_too_deep}
use Rattle.problem_build.specs.Refusals.{formula_too_large, too_many_symbols, bad}
use Rattle.leancop_top.specs.Statuses.{IsCounted, status_line}
use Rattle.leancop_top.specs.declared.problem.Reading as program
use Rattle.leancop_top.specs.declared.problem.Reading.TheVariants.{Read, Refused}
use Rattle.leancop_top.specs.declared.status.Status.{Status}
use Rattle.leancop_top.specs.declared.status.Status.TheVariants as status

-- the files hold this problem, or have this first refusal
abbrev pub Reading : Files → ProblemFile → Result Problem Refusal → Type 0
Reading files p result = IsProblemOf files p.name p.root p.setting result

-- A library that tells nothing of its files allows any problem and any refusal.
pub record IsRead (told : Option Files) (p : ProblemFile) (result : Result Problem Refusal)
    : Type 0 where
  pub reading : IfSome told (λ files. Reading files p result)
  pub unique :
      IfSome told (λ files.
      (other : Result Problem Refusal) → Reading files p other → other ≡ result)

-- the status that tells a refusal
abbrev pub refusal_status : Refusal → Status
refusal_status (missing name) = status.Missing name
refusal_status input_too_large = status.InputTooLarge
refusal_status nesting_too_deep = status.NestingTooDeep
refusal_status formula_too_large = status.FormulaTooLarge
refusal_status too_many_symbols = status.TooManySymbols
refusal_status (bad file offset cause) = status.BadProblem file offset cause

-- why there is no problem: the files have this first refusal, or a file that is fetched on the way
-- could not be read
pub data ReadingEnds (told : Option Files) (p : ProblemFile) : Status → Type 0 where
  refused : (refusal : Refusal) → IsRead told p (Err refusal)
      → ReadingEnds told p (refusal_status refusal)
  unread : (name : List ℕ) → IfSome told (λ files. WalkFetches files p.name p.root p.setting name)
      → ReadingEnds told p (status.ReadFault name)

-- what reading answers
abbrev pub IsReading : Option Files → ProblemFile → program.Reading → Type 0
IsReading told p (Read problem) = IsRead told p (Ok problem)
IsReading told p (Refused s) = ReadingEnds told p s

-- a problem that is read has the setting that was asked for
abbrev pub IsReadIn : Setting → program.Reading → Type 0
IsReadIn setting (Read problem) = problem.setting ≡ setting
IsReadIn setting (Refused s) = ⊤

-- its counts
abbrev pub IsReadingCounted : ℕ → ℕ → ℕ → ℕ → List seen.Read → program.Reading → Type 0
IsReadingCounted m n f g after (Read problem) = ⊤
IsReadingCounted m n f g after (Refused s) = IsCounted m n f g after s

-- a command for a problem ends as reading it does, or as it ends for the problem that is read
pub data EndsOn (told : Option Files) (p : ProblemFile) (ends : Problem → Status → List ℕ → Type 0)
    : Status → List ℕ → Type 0 where
  without_problem : (s : Status) → ReadingEnds told p s
      → EndsOn told p ends s (status_line s)
  with_problem : (problem : Problem) (s : Status) (bytes : List ℕ)
      → IsRead told p (Ok problem) → ends problem s bytes → EndsOn told p ends s bytes
