-- What each status is: its line, the exit status of the process, and what a run has counted.
use Rattle.std.specs.Prelude.{ℕ, ⊤, List, [], ◌++◌, codes, decimal}
use Rattle.cop_base.specs.Outside.{Rose}
use Rattle.cop_base.specs.Reads as seen
use Rattle.cop_base.specs.Reads.{EndsWith, Read}
use Rattle.leancop_top.specs.FaultTexts.{cause_text, fault_text, structure_cause_text}
use Rattle.leancop_top.specs.FaultTexts.{tableau_fault_text}
use Rattle.leancop_top.specs.declared.status.Status.{Status}
use Rattle.leancop_top.specs.declared.status.Status.TheVariants.{Derived, Exhausted, NoTableau}
use Rattle.leancop_top.specs.declared.status.Status.TheVariants.{StepsEnded, Accepted, Rejected}
use Rattle.leancop_top.specs.declared.status.Status.TheVariants.{TrueAtRoot, FalseAtRoot}
use Rattle.leancop_top.specs.declared.status.Status.TheVariants.{BadStructure}
use Rattle.leancop_top.specs.declared.status.Status.TheVariants.{BadWords, Missing, ReadFault}
use Rattle.leancop_top.specs.declared.status.Status.TheVariants.{WriteFault, BadProblem}
use Rattle.leancop_top.specs.declared.status.Status.TheVariants.{InputTooLarge, NestingTooDeep}
use Rattle.leancop_top.specs.declared.status.Status.TheVariants.{FormulaTooLarge, TooManySymbols}
use Rattle.leancop_top.specs.declared.status.Status.TheVariants.{MatrixTooLarge, NoMemory}
use Rattle.leancop_top.specs.declared.status.Status.TheVariants.{Migrated, Transferred}
use Rattle.leancop_top.specs.declared.status.Status.TheVariants.{TableauFound, Converted}
use Rattle.leancop_top.specs.declared.status.Status.TheVariants.{TableauRejected}

-- the line that tells a status, and the exit status of the process
pub record Row : Type 0 where
  pub line : List ℕ
  pub exit : ℕ

abbrev pub row : ℕ → List ℕ → Row
row exit line = record { line = line ++ codes "\n"; exit = exit }

-- no line tells that a derivation or a tableau was printed, that the output cannot be written, or
-- that memory ended
abbrev pub without_line : ℕ → Row
without_line exit = record { line = []; exit = exit }

abbrev pub row_of : Status → Row
row_of (Derived d) = without_line 0
row_of (Exhausted d) = row 1 (codes "exhausted at limit " ++ decimal d)
row_of (NoTableau d) = row 2 (codes "no tableau at limit " ++ decimal d)
row_of (StepsEnded d n) =
    row 3 (codes "steps ended after limit " ++ decimal d ++ codes " at " ++ decimal n ++ codes " steps")
row_of Accepted = row 0 (codes "accepted")
row_of (Rejected line fault) =
    row 8 (codes "rejected at line " ++ decimal line ++ codes ": " ++ fault_text fault)
row_of TrueAtRoot = row 0 (codes "true at the root")
row_of FalseAtRoot = row 9 (codes "false at the root")
row_of (BadStructure line cause) =
    row 10 (codes "rejected structure at line " ++ decimal line ++ codes ": " ++ structure_cause_text cause)
row_of (BadWords place) = row 5 (codes "bad word " ++ decimal place)
row_of (Missing name) = row 6 (codes "missing: " ++ name)
row_of (ReadFault name) = row 6 (codes "read fault: " ++ name)
row_of Transferred = without_line 0
row_of Migrated = without_line 0
row_of (TableauFound d) = without_line 0
row_of (TableauRejected line fault) =
    row 8 (codes "rejected at line " ++ decimal line ++ codes ": " ++ tableau_fault_text fault)
row_of Converted = without_line 0
row_of WriteFault = without_line 6
row_of (BadProblem file offset cause) =
    row 4 (file ++ codes ":" ++ decimal offset ++ codes ": " ++ cause_text cause)
row_of InputTooLarge = row 4 (codes "input too large")
row_of NestingTooDeep = row 4 (codes "nesting too deep")
row_of FormulaTooLarge = row 4 (codes "formula too large")
row_of TooManySymbols = row 4 (codes "too many symbols")
row_of MatrixTooLarge = row 4 (codes "matrix too large")
row_of NoMemory = without_line 7

abbrev pub status_line : Status → List ℕ
status_line status = (row_of status).line

abbrev pub exit_of : Status → ℕ
exit_of status = (row_of status).exit

-- a missing file and a file that could not be read have been counted, and are those of the last
-- answer of the library
abbrev pub IsCounted : ℕ → ℕ → ℕ → ℕ → List Read → Status → Type 0
IsCounted misses misses_after faults faults_after after (Missing name) =
    Rose misses misses_after × EndsWith after name seen.absent
IsCounted misses misses_after faults faults_after after (ReadFault name) =
    Rose faults faults_after × EndsWith after name seen.failed
IsCounted _ _ _ _ _ _ = ⊤

-- a fact for each status but the two that say nothing of what was asked
abbrev pub OnAnswer : Status → Type 0 → Type 0
OnAnswer WriteFault fact = ⊤
OnAnswer NoMemory fact = ⊤
OnAnswer _ fact = fact
