-- What a run answers, by its words and by the files that its library tells.
use Rattle.calculus.specs.declared.fault.StructureCause.{StructureCause}
use Rattle.std.specs.Prelude.{◌≡◌, ⊤, ℕ, List, take, Option}
use Rattle.cop_base.specs.Outside.{Files}
use Rattle.cop_sink.specs.Output.{with_bytes}
use Rattle.cop_base.specs.Reads.{Read}
use Rattle.command_line.specs.CommandLine.{Command, prove, check, check_translated, transfer, migrate, make, model, bad}
use Rattle.command_line.specs.CommandLine.{tableau, tcheck, convert, in_intuitionistic}
use Rattle.leancop_top.specs.Commands.Check.{CheckEnds, IsCheckable, IsJudged}
use Rattle.leancop_top.specs.Commands.Check.{IsCheckableTranslated, TranslatedCheckEnds}
use Rattle.leancop_top.specs.Commands.Convert.{ConvertEnds, IsConvertDecided}
use Rattle.leancop_top.specs.Commands.Make.{IsMakeable, MakeEnds}
use Rattle.leancop_top.specs.Commands.Migrate.{IsMigrateDecided, MigrateEnds}
use Rattle.leancop_top.specs.Commands.Model.{IsModel, IsNoModel, IsTold, ModelEnds}
use Rattle.leancop_top.specs.Commands.Prove.{IsDerivedAt, IsProblemDecided, IsProvable}
use Rattle.leancop_top.specs.Commands.Prove.{IsProvableByCut, ProveEnds}
use Rattle.leancop_top.specs.Commands.Tableau.{IsTableauFoundAt, IsTableauProblemDecided}
use Rattle.leancop_top.specs.Commands.Tableau.{TableauEnds}
use Rattle.leancop_top.specs.Commands.Tcheck.{IsTcheckDecided, TcheckEnds}
use Rattle.leancop_top.specs.Commands.Transfer.{IsTransferDecided, TransferEnds}
use Rattle.leancop_top.specs.Reading.{EndsOn}
use Rattle.leancop_top.specs.Statuses.{IsCounted, status_line}
use Rattle.leancop_top.specs.declared.status.Status.{Status}
use Rattle.leancop_top.specs.declared.status.Status.TheVariants.{BadStructure, BadWords}

-- why a run ends with a status, and what is written
abbrev pub Ends : Option Files → Command → Status → List ℕ → Type 0
Ends told (prove p b v) status bytes = EndsOn told p (λ P. ProveEnds P b v) status bytes
Ends told (check p derivation) status bytes =
    EndsOn told p (λ P. CheckEnds told P derivation) status bytes
Ends told (check_translated p derivation) status bytes =
    EndsOn told (in_intuitionistic p) (λ P. TranslatedCheckEnds told P derivation) status bytes
Ends told (transfer p derivation) status bytes =
    EndsOn told (in_intuitionistic p) (λ P. TransferEnds told P derivation) status bytes
Ends told (migrate p derivation) status bytes =
    EndsOn told p (λ P. MigrateEnds told P derivation) status bytes
Ends told (make g b) status bytes = MakeEnds g b status bytes
Ends told (model p structure steps) status bytes =
    EndsOn told p (λ P. ModelEnds told P structure steps) status bytes
Ends told (tableau p b) status bytes = EndsOn told p (λ P. TableauEnds P b) status bytes
Ends told (tcheck p text) status bytes =
    EndsOn told p (λ P. TcheckEnds told P text) status bytes
Ends told (convert p text) status bytes =
    EndsOn told p (λ P. ConvertEnds told P text) status bytes
Ends told (bad place) status bytes =
    (status ≡ BadWords place) × (bytes ≡ status_line status)

-- the output of the status is written
pub record IsAnswered (told : Option Files) (command : Command) (status : Status)
    (before after : Option (List ℕ)) : Type 0 where
  pub bytes : List ℕ
  pub ends : Ends told command status bytes
  pub written : after ≡ with_bytes before bytes

-- writing failed: a prefix of the output of some status, with its counts, is written
pub record IsCutOff (told : Option Files) (command : Command)
    (misses misses_after faults faults_after : ℕ) (reads : List Read)
    (before after : Option (List ℕ)) : Type 0 where
  pub status : Status
  pub bytes : List ℕ
  pub ends : Ends told command status bytes
  pub counted : IsCounted misses misses_after faults faults_after reads status
  pub length : ℕ
  pub written : after ≡ with_bytes before (take length bytes)

-- what is decided where the files hold what the words ask for
abbrev pub Decides : Option Files → Command → Status → Type 0
Decides told (prove p b v) status =
    ((h : IsProvable told p b) → IsProblemDecided h.problem b status)
    × ((limit : ℕ) → IsProvableByCut told p b limit → IsDerivedAt limit status)
Decides told (check p derivation) status = IsCheckable told p derivation → IsJudged status
Decides told (check_translated p derivation) status =
    IsCheckableTranslated told (in_intuitionistic p) derivation → IsJudged status
Decides told (transfer p derivation) status =
    IsCheckable told (in_intuitionistic p) derivation → IsTransferDecided status
Decides told (migrate p derivation) status = IsCheckable told p derivation → IsMigrateDecided status
Decides told (make g b) status = (h : IsMakeable g b) → IsProblemDecided h.problem b status
Decides told (model p structure steps) status =
    (IsModel told p structure steps → IsTold status)
    × ((line : ℕ) (cause : StructureCause) → IsNoModel told p structure line cause
    → status ≡ BadStructure line cause)
Decides told (tableau p b) status =
    ((h : IsProvable told p b) → IsTableauProblemDecided h.problem b status)
    × ((limit : ℕ) → IsProvableByCut told p b limit → IsTableauFoundAt limit status)
Decides told (tcheck p text) status = IsCheckable told p text → IsTcheckDecided status
Decides told (convert p text) status = IsCheckable told p text → IsConvertDecided status
Decides told (bad place) status = ⊤
