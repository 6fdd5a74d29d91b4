-- How what is read for a command leads to how it ends.
use Rattle.std.proofs.Common.{◌≡◌, List, ℕ, Option, Result, Ok, Err, Vec, subst, sym}
use Rattle.std.specs.Prelude.{IfOk}
use Rattle.std.specs.declared.alloc.Global.{Global}
use Rattle.cop_base.specs.Outside.{Files}
use Rattle.cop_base.specs.declared.NoMemory.{NoMemory}
use Rattle.calculus.specs.Syntax.{Problem}
use Rattle.command_line.specs.CommandLine.{ProblemFile}
use Rattle.command_line.specs.Table.{Word}
use Rattle.leancop_top.proofs.Ends.{same-ends}
use Rattle.leancop_top.specs.Commands.Check.{CheckEnds, TranslatedCheckEnds, translated}
use Rattle.leancop_top.specs.Commands.Check as check_ends
use Rattle.leancop_top.specs.Commands.Convert as convert_ends
use Rattle.leancop_top.specs.Commands.Migrate as migrate_ends
use Rattle.leancop_top.specs.Commands.Model as model_ends
use Rattle.leancop_top.specs.Commands.Tcheck as tcheck_ends
use Rattle.leancop_top.specs.Commands.Transfer as transfer_ends
use Rattle.leancop_top.specs.Reading.{EndsOn, IsRead, with_problem}
use Rattle.leancop_top.specs.SecondFile.{FetchEnds, HasBytes}
use Rattle.leancop_top.specs.Statuses.{status_line}
use Rattle.leancop_top.specs.Tasks.{FileTaskEnds, LeadsTo, ProblemTaskEnds, Replies}
use Rattle.leancop_top.specs.Translating.{IsTranslated}
use Rattle.leancop_top.specs.declared.reply.Reply.{Reply}
use Rattle.leancop_top.specs.declared.status.Status.{Status}
use Rattle.leancop_top.specs.declared.task.FileTask.{FileTask}
use Rattle.leancop_top.specs.declared.task.FileTask.TheVariants as with_file
use Rattle.leancop_top.specs.declared.task.ProblemTask.{ProblemTask}
use Rattle.leancop_top.specs.declared.task.Task.{Task}
use Rattle.leancop_top.specs.declared.task.Task.TheVariants.{Tell, Make, OnProblem, OnFile}

-- ---- a status that is told

pub telling : (ends : Status → List ℕ → Type 0) (s : Status) → ends s (status_line s) → LeadsTo ends (Tell s)
telling ends s h = λ t bytes r. same-ends ends s t (status_line s) bytes r.0 r.1 h

-- ---- a problem

pub on-problem : (told : Option Files) (p : ProblemFile) (P : Problem) (task : ProblemTask) → IsRead told p (Ok P) → LeadsTo (EndsOn told p (λ Q. ProblemTaskEnds task Q)) (OnProblem task P)
on-problem told p P task read = λ s bytes r. with_problem P s bytes read r

-- a task for the problem that is read
pub over-problem : (told : Option Files) (p : ProblemFile) (P : Problem) (ends : Problem → Status → List ℕ → Type 0) (r : Result Task NoMemory) → IsRead told p (Ok P) → IfOk r (λ t. LeadsTo (ends P) t) → IfOk r (λ t. LeadsTo (EndsOn told p ends) t)
over-problem told p P ends (Ok t) read h = λ s bytes r. with_problem P s bytes read (h s bytes r)
over-problem told p P ends (Err f) read h = tt

-- ---- a second file

pub on-file : (told : Option Files) (P : Problem) (name : Word) (task : FileTask) (text : Vec ℕ Global) → HasBytes told name text.items → LeadsTo (FileTaskEnds task told P name) (OnFile task P text)
on-file told P name task text held = λ s bytes r. r told name held

-- each command ends where the file is not fetched
pub unfetched : (told : Option Files) (P : Problem) (name : Word) (task : FileTask) (s : Status) → FetchEnds told name s → FileTaskEnds task told P name s (status_line s)
unfetched told P name with_file.Check s h = check_ends.not_fetched s h
unfetched told P name with_file.Transfer s h = transfer_ends.not_fetched s h
unfetched told P name with_file.Migrate s h = migrate_ends.not_fetched s h
unfetched told P name (with_file.Model steps) s h = model_ends.not_fetched s h
unfetched told P name with_file.Tcheck s h = tcheck_ends.not_fetched s h
unfetched told P name with_file.Convert s h = convert_ends.not_fetched s h

-- the judgement for the translated problem
pub over-translation : (told : Option Files) (P Q : Problem) (name : Word) (r : Result Task NoMemory) → IsTranslated P Q → IfOk r (λ t. LeadsTo (CheckEnds told Q name) t) → IfOk r (λ t. LeadsTo (TranslatedCheckEnds told P name) t)
over-translation told P Q name (Ok t) same h = λ s bytes r.
    translated s bytes same.translatable (subst (λ R. CheckEnds told R name s bytes) same.same (h s bytes r))
over-translation told P Q name (Err f) same h = tt

-- ---- replies

pub on-told : (s : Status) (r : Result Reply NoMemory) → IfOk r (λ x. x.status ≡ s) → IfOk r (λ x. x.output.items ≡ status_line s) → IfOk r (λ x. Replies (Tell s) x.status x.output.items)
on-told s (Ok x) e f = (e, f)
on-told s (Err k) e f = tt

pub for-file : (task : FileTask) (P : Problem) (text : Vec ℕ Global) (r : Result Reply NoMemory) → ((told : Option Files) (name : Word) → HasBytes told name text.items → IfOk r (λ x. FileTaskEnds task told P name x.status x.output.items)) → IfOk r (λ x. Replies (OnFile task P text) x.status x.output.items)
for-file task P text (Ok x) h = h
for-file task P text (Err k) h = tt

pub as-led : (ends : Status → List ℕ → Type 0) (t : Task) (r : Result Reply NoMemory) → LeadsTo ends t → IfOk r (λ x. Replies t x.status x.output.items) → IfOk r (λ x. ends x.status x.output.items)
as-led ends t (Ok x) leads h = leads x.status x.output.items h
as-led ends t (Err k) leads h = tt
