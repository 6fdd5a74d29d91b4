-- `make FAMILY N`: a generated problem, its search, and the judgement of its derivation. No file is
-- read.
use Rattle.std.specs.Prelude.{⊤, ℕ, List, [], ◌∷◌, codes, length, Some, Ok, Err}
use Rattle.calculus.specs.Families.{family_text}
use Rattle.calculus.specs.Syntax.{Problem}
use Rattle.calculus.specs.declared.version.Version.TheVariants.{One}
use Rattle.command_line.specs.CommandLine.{Bounds, GeneratedProblem, ProblemFile}
use Rattle.cop_base.specs.Outside.{Files}
use Rattle.problem_build.specs.Refusals.{Refusal, missing}
use Rattle.leancop_top.specs.Commands.Prove.{IsDerived}
use Rattle.leancop_top.specs.MadeLines.{made_output}
use Rattle.leancop_top.specs.Reading.{IsRead, Reading, refusal_status}
use Rattle.leancop_top.specs.TableauSearch.{SearchEnds, Suffices}
use Rattle.leancop_top.specs.declared.status.Status.{Status}
use Rattle.leancop_top.specs.declared.status.Status.TheVariants.{Derived}

-- ---- the problem

abbrev pub made_text : GeneratedProblem → List ℕ
made_text g = family_text g.family g.size g.setting.logic

-- the text is the only file, and the main file of the problem
abbrev pub made_files : GeneratedProblem → Files
made_files g = (codes "m.p", made_text g) ∷ []

abbrev pub made_file : GeneratedProblem → ProblemFile
made_file g = record { name = codes "m.p"; root = []; setting = g.setting }

-- this is the problem of the text
abbrev pub IsMade : GeneratedProblem → Problem → Type 0
IsMade g P = IsRead (Some (made_files g)) (made_file g) (Ok P)

-- ---- how it ends

-- what is written for a status
abbrev pub output_of : GeneratedProblem → Status → List ℕ
output_of g status = made_output g.family g.size (length (made_text g)) status

-- no text includes a file, so that none is missing
abbrev pub IsOfText : Refusal → Type 0
IsOfText (missing name) = ⊥
IsOfText _ = ⊤

-- Why it ends with a status, and what is written. Where acceptance is written, there is a text whose
-- judgement is acceptance, and which carries the limit.
pub data MakeEnds (g : GeneratedProblem) (b : Bounds) : Status → List ℕ → Type 0 where
  derived : (P : Problem) (limit : ℕ) (text : List ℕ) → IsMade g P → IsDerived P b One limit text
      → MakeEnds g b (Derived limit) (output_of g (Derived limit))
  fruitless : (P : Problem) (status : Status) → IsMade g P → SearchEnds P b status
      → MakeEnds g b status (output_of g status)
  refused : (refusal : Refusal) → IsOfText refusal
      → IsRead (Some (made_files g)) (made_file g) (Err refusal)
      → MakeEnds g b (refusal_status refusal) (output_of g (refusal_status refusal))

-- ---- what it decides

-- the text is that of a problem, and the bounds suffice for it
pub record IsMakeable (g : GeneratedProblem) (b : Bounds) : Type 0 where
  pub problem : Problem
  pub read : Reading (made_files g) (made_file g) (Ok problem)
  pub suffices : Suffices problem b
