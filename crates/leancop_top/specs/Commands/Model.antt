-- `model FILE STRUCTURE`: what a finite structure says of the problem's formula.
use Rattle.std.specs.Prelude.{◌≡◌, ◌<◌, ◌≤◌, ⊤, ℕ, List, Option, None, Some, Ok}
use Rattle.cop_base.specs.Outside.{Files, file_in}
use Rattle.calculus.specs.declared.fault.StructureCause.{StructureCause}
use Rattle.calculus.specs.Soundness.{HasNoDerivation, IsNeverAccepted}
use Rattle.calculus.specs.Structures.{Structure, is_true}
use Rattle.calculus.specs.StructureText.{IsStructureText, IsStructureJudgement, StructureVerdict}
use Rattle.calculus.specs.StructureText.{conditions, first_broken, truth_verdict}
use Rattle.calculus.specs.StructureText as verdict
use Rattle.calculus.specs.StructureTruth.{ways}
use Rattle.calculus.specs.Syntax.{Problem}
use Rattle.command_line.specs.CommandLine.{ProblemFile}
use Rattle.command_line.specs.Table.{Word}
use Rattle.leancop_top.specs.Reading.{Reading}
use Rattle.leancop_top.specs.SecondFile.{FetchEnds, HasBytes}
use Rattle.leancop_top.specs.Statuses.{status_line}
use Rattle.leancop_top.specs.declared.status.Status.{Status}
use Rattle.leancop_top.specs.declared.status.Status.TheVariants.{TrueAtRoot, FalseAtRoot}
use Rattle.leancop_top.specs.declared.status.Status.TheVariants.{BadStructure, StepsEnded}

-- the file's bytes have this judgement as a structure for the problem, and no other
pub record IsJudgedStructureIn (told : Option Files) (P : Problem) (structure : Word)
    (verdict : StructureVerdict) : Type 0 where
  pub text : List ℕ
  pub held : HasBytes told structure text
  pub judged : IsStructureJudgement P text verdict
  pub unique : (other : StructureVerdict) → IsStructureJudgement P text other → other ≡ verdict

-- the file's bytes state a structure of the problem's setting, in which the formula has more ways
-- than this many steps
pub record HasMoreWays (told : Option Files) (P : Problem) (structure : Word) (steps : ℕ)
    : Type 0 where
  pub text : List ℕ
  pub held : HasBytes told structure text
  pub stated : Structure
  pub is_text : IsStructureText P stated text
  pub judged : IsStructureJudgement P text (truth_verdict (is_true P stated))
  pub more : steps < ways P stated

-- why it ends with a status for the problem that is read, and what is written
pub data ModelEnds (told : Option Files) (P : Problem) (structure : Word) (steps : ℕ)
    : Status → List ℕ → Type 0 where
  true_at_root : IsJudgedStructureIn told P structure verdict.true_at_root
      → ModelEnds told P structure steps TrueAtRoot (status_line TrueAtRoot)
  false_at_root : IsJudgedStructureIn told P structure verdict.false_at_root
      → HasNoDerivation P → IsNeverAccepted P
      → ModelEnds told P structure steps FalseAtRoot (status_line FalseAtRoot)
  bad_structure : (line : ℕ) (cause : StructureCause)
      → IsJudgedStructureIn told P structure (verdict.bad_structure line cause)
      → ModelEnds told P structure steps (BadStructure line cause)
      (status_line (BadStructure line cause))
  steps_ended : HasMoreWays told P structure steps
      → ModelEnds told P structure steps (StepsEnded 0 steps) (status_line (StepsEnded 0 steps))
  not_fetched : (status : Status) → FetchEnds told structure status
      → ModelEnds told P structure steps status (status_line status)

-- ---- what it decides

-- the files hold the problem and, in the structure's file, these bytes
pub record IsGiven (told : Option Files) (p : ProblemFile) (structure : Word) (P : Problem)
    (bytes : List ℕ) : Type 0 where
  pub files : Files
  pub tells : told ≡ Some files
  pub read : Reading files p (Ok P)
  pub given : file_in files structure ≡ Some bytes

-- the bytes state a structure of the problem's setting, and the budget is at least the number of
-- ways
pub record IsModel (told : Option Files) (p : ProblemFile) (structure : Word) (steps : ℕ)
    : Type 0 where
  pub problem : Problem
  pub bytes : List ℕ
  pub held : IsGiven told p structure problem bytes
  pub stated : Structure
  pub is_text : IsStructureText problem stated bytes
  pub sound : first_broken (conditions problem stated) ≡ None
  pub enough : ways problem stated ≤ steps

-- then truth is told
abbrev pub IsTold : Status → Type 0
IsTold TrueAtRoot = ⊤
IsTold FalseAtRoot = ⊤
IsTold _ = ⊥

-- the bytes state no such structure, for this reason
pub record IsNoModel (told : Option Files) (p : ProblemFile) (structure : Word) (line : ℕ)
    (cause : StructureCause) : Type 0 where
  pub problem : Problem
  pub bytes : List ℕ
  pub held : IsGiven told p structure problem bytes
  pub bad : IsStructureJudgement problem bytes (verdict.bad_structure line cause)
