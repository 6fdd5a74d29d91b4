-- What a command does once its files are read, and why it ends with a status.
use Rattle.std.specs.Prelude.{◌≡◌, ⊤, ℕ, List, Option, false}
use Rattle.cop_base.specs.Outside.{Files}
use Rattle.cop_base.specs.Reads.{Read}
use Rattle.calculus.specs.Syntax.{Problem, Setting}
use Rattle.calculus.specs.declared.setting.Logic.TheVariants.{Intuitionistic}
use Rattle.command_line.specs.CommandView.{the_bounds, the_generated_problem}
use Rattle.command_line.specs.Table.{Word}
use Rattle.leancop_top.specs.Commands.Check.{CheckEnds}
use Rattle.leancop_top.specs.Commands.Convert.{ConvertEnds}
use Rattle.leancop_top.specs.Commands.Make.{MakeEnds}
use Rattle.leancop_top.specs.Commands.Migrate.{MigrateEnds}
use Rattle.leancop_top.specs.Commands.Model.{ModelEnds}
use Rattle.leancop_top.specs.Commands.Prove.{ProveEnds}
use Rattle.leancop_top.specs.Commands.Tableau.{TableauEnds}
use Rattle.leancop_top.specs.Commands.Tcheck.{TcheckEnds}
use Rattle.leancop_top.specs.Commands.Transfer.{TransferEnds}
use Rattle.leancop_top.specs.SecondFile.{HasBytes}
use Rattle.leancop_top.specs.Statuses.{IsCounted, status_line}
use Rattle.leancop_top.specs.Telling.{is_silent}
use Rattle.leancop_top.specs.declared.status.Status.{Status}
use Rattle.leancop_top.specs.declared.task.FileTask.{FileTask}
use Rattle.leancop_top.specs.declared.task.FileTask.TheVariants as with_file
use Rattle.leancop_top.specs.declared.task.ProblemTask.{ProblemTask}
use Rattle.leancop_top.specs.declared.task.ProblemTask.TheVariants as with_problem
use Rattle.leancop_top.specs.declared.task.Task.{Task}
use Rattle.leancop_top.specs.declared.task.Task.TheVariants.{Tell, Make, OnProblem, OnFile}

-- ---- what is done with a problem alone

abbrev pub ProblemTaskEnds : ProblemTask → Problem → Status → List ℕ → Type 0
ProblemTaskEnds (with_problem.Prove bounds version) P = ProveEnds P (the_bounds bounds) version
ProblemTaskEnds (with_problem.Tableau bounds) P = TableauEnds P (the_bounds bounds)

-- ---- what is done with a problem and the bytes of a second file

abbrev pub FileTaskEnds : FileTask → Option Files → Problem → Word → Status → List ℕ → Type 0
FileTaskEnds with_file.Check told P name = CheckEnds told P name
FileTaskEnds with_file.Transfer told P name = TransferEnds told P name
FileTaskEnds with_file.Migrate told P name = MigrateEnds told P name
FileTaskEnds (with_file.Model steps) told P name = ModelEnds told P name steps
FileTaskEnds with_file.Tcheck told P name = TcheckEnds told P name
FileTaskEnds with_file.Convert told P name = ConvertEnds told P name

-- only an intuitionistic derivation is transferred
abbrev pub IsFitting : FileTask → Setting → Type 0
IsFitting with_file.Transfer setting = setting.logic ≡ Intuitionistic
IsFitting task setting = ⊤

-- ---- all of them

-- what is replied, and written; bytes may be those of any file that has them
abbrev pub Replies : Task → Status → List ℕ → Type 0
Replies (Tell told) status bytes = (status ≡ told) × (bytes ≡ status_line told)
Replies (Make problem bounds) status bytes =
    MakeEnds (the_generated_problem problem) (the_bounds bounds) status bytes
Replies (OnProblem task problem) status bytes = ProblemTaskEnds task problem status bytes
Replies (OnFile task problem text) status bytes =
    (told : Option Files) (name : Word) → HasBytes told name text.items
    → FileTaskEnds task told problem name status bytes

-- so a command that has this task ends in one of these ways
abbrev pub LeadsTo : (Status → List ℕ → Type 0) → Task → Type 0
LeadsTo ends task = (status : Status) (bytes : List ℕ) → Replies task status bytes → ends status bytes

-- it can be done
abbrev pub IsReady : Task → Type 0
IsReady (Tell status) = is_silent status ≡ false
IsReady (OnFile task problem text) = IsFitting task problem.setting
IsReady task = ⊤

-- the counts of a file that was not read
abbrev pub IsTaskCounted : ℕ → ℕ → ℕ → ℕ → List Read → Task → Type 0
IsTaskCounted m n f g after (Tell status) = IsCounted m n f g after status
IsTaskCounted m n f g after task = ⊤
