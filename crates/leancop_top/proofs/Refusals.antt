-- Why reading a problem ends, and why a second file is not fetched.
use Rattle.std.proofs.Common.{◌≡◌, List, ℕ, Option, Some, None, Result, Ok, Err, refl, subst}
use Rattle.std.specs.Prelude.{IfSome}
use Rattle.calculus.specs.Syntax.{Problem}
use Rattle.command_line.specs.CommandLine.{ProblemFile}
use Rattle.command_line.specs.Table.{Word}
use Rattle.cop_base.proofs.ReadLaws.{of-told}
use Rattle.cop_base.specs.Outside.{Files, file_in}
use Rattle.cop_base.specs.Reads.{AgreesSince, Read, ReadsOn}
use Rattle.problem_build.specs.Answers.{the_answer}
use Rattle.problem_build.specs.Building.{WalkFetches}
use Rattle.problem_build.specs.Refusals.{Refusal, missing, input_too_large, nesting_too_deep, formula_too_large, too_many_symbols, bad}
use Rattle.problem_build.specs.declared.fault.BuildFault.{BuildFault}
use Rattle.problem_build.specs.declared.fault.BuildFault.TheVariants as build
use Rattle.leancop_top.specs.FaultView.{status_of}
use Rattle.leancop_top.specs.Reading.{IsRead, Reading, ReadingEnds, refused, refusal_status, unread}
use Rattle.leancop_top.specs.SecondFile.{FetchEnds, HasBytes}
use Rattle.leancop_top.specs.SecondFile as second
use Rattle.leancop_top.specs.declared.status.Status.{Status}
use Rattle.leancop_top.specs.declared.status.Status.TheVariants.{Missing, ReadFault}
use Rattle.leancop_top.specs.declared.status.Status.TheVariants.{InputTooLarge, NestingTooDeep}
use Rattle.leancop_top.specs.declared.status.Status.TheVariants.{FormulaTooLarge, TooManySymbols}

abbrev err : BuildFault → Result Problem BuildFault
err fault = Err fault

-- a fact of all files that agree with what was read
abbrev pub Agreeing : (old new : List Read) → (Files → Type 0) → Type 0
Agreeing old new fact = (files : Files) → AgreesSince files old new → fact files

abbrev pub IsAnswer : ProblemFile → Result Problem BuildFault → Files → Type 0
IsAnswer p result files = IfSome (the_answer result) (λ r. Reading files p r)

abbrev pub IsOnlyAnswer : ProblemFile → Result Problem BuildFault → Files → Type 0
IsOnlyAnswer p result files = IfSome (the_answer result) (λ r. (other : Result Problem Refusal) → Reading files p other → other ≡ r)

-- the file that could not be read is one that is fetched
abbrev IsFetchFault : Option Files → ProblemFile → Result Problem BuildFault → Type 0
IsFetchFault told p result =
    (n : List ℕ) → result ≡ Err (build.Failed n) → IfSome told (λ files. WalkFetches files p.name p.root p.setting n)

same-status : (s t : Status) → Some s ≡ Some t → s ≡ t
same-status s t e = cc

-- a status that tells nothing is none
no-status : (s : Status) → None ≡ Some s → ⊥
no-status s e = absurd (cc)

-- the first refusal of the files, and the status that tells it
by_refusal : (told : Option Files) (p : ProblemFile) (r : Refusal) (s : Status) → IsRead told p (Err r) → Some (refusal_status r) ≡ Some s → ReadingEnds told p s
by_refusal told p r s h e = subst (ReadingEnds told p) (same-status (refusal_status r) s e) (refused r h)

read_refused : (told : Option Files) (p : ProblemFile) (fault : BuildFault) (s : Status) → status_of fault ≡ Some s → IfSome told (IsAnswer p (Err fault)) → IfSome told (IsOnlyAnswer p (Err fault)) → IsFetchFault told p (Err fault) → ReadingEnds told p s
read_refused told p (build.Missing name) s e h k f = by_refusal told p (missing name) s (record { reading = h; unique = k }) e
read_refused told p (build.Failed name) s e h k f = subst (ReadingEnds told p) (same-status (ReadFault name) s e) (unread name (f name refl))
read_refused told p build.InputTooLarge s e h k f = by_refusal told p input_too_large s (record { reading = h; unique = k }) e
read_refused told p build.NestingTooDeep s e h k f = by_refusal told p nesting_too_deep s (record { reading = h; unique = k }) e
read_refused told p build.FormulaTooLarge s e h k f = by_refusal told p formula_too_large s (record { reading = h; unique = k }) e
read_refused told p build.TooManySymbols s e h k f = by_refusal told p too_many_symbols s (record { reading = h; unique = k }) e
read_refused told p (build.Bad file offset cause) s e h k f = by_refusal told p (bad file offset cause) s (record { reading = h; unique = k }) e
read_refused told p build.NoMemory s e h k f = absurd (no-status s e)

-- ---- by the names that were handed over

abbrev named : (name root : Word) → ProblemFile → ProblemFile
named name root p = record p { name = name; root = root }

same_names : (Q : Word → Word → Type 0) (a b c d : Word) → a ≡ b → c ≡ d → Q a c → Q b d
same_names Q a b c d e k h = subst (λ n. Q n d) e (subst (λ r. Q a r) k h)

pub read_as : (told : Option Files) (old new : List Read) (p : ProblemFile) (name root : Word) (P : Problem) → name ≡ p.name → root ≡ p.root → ReadsOn told old new
    → Agreeing old new (IsAnswer (named name root p) (Ok P)) → Agreeing old new (IsOnlyAnswer (named name root p) (Ok P)) → IsRead told p (Ok P)
read_as told old new p name root P e k w h only =
    same_names (λ n r. IsRead told (named n r p) (Ok P)) name p.name root p.root e k (record {
      reading = of-told told old new (IsAnswer (named name root p) (Ok P)) w h;
      unique = of-told told old new (IsOnlyAnswer (named name root p) (Ok P)) w only;
    })

pub refused_as : (told : Option Files) (old new : List Read) (p : ProblemFile) (name root : Word) (fault : BuildFault) (s : Status) → name ≡ p.name → root ≡ p.root → ReadsOn told old new → status_of fault ≡ Some s
    → Agreeing old new (IsAnswer (named name root p) (Err fault)) → Agreeing old new (IsOnlyAnswer (named name root p) (Err fault))
    → ((n : List ℕ) → err fault ≡ Err (build.Failed n) → Agreeing old new (λ files. WalkFetches files name root p.setting n)) → ReadingEnds told p s
refused_as told old new p name root fault s e k w same h only f =
    same_names (λ n r. ReadingEnds told (named n r p) s) name p.name root p.root e k
    (read_refused told (named name root p) fault s same
    (of-told told old new (IsAnswer (named name root p) (Err fault)) w h)
    (of-told told old new (IsOnlyAnswer (named name root p) (Err fault)) w only)
    (λ n q. of-told told old new (λ files. WalkFetches files name root p.setting n) w (f n q)))

-- ---- a second file

pub fetched_as : (told : Option Files) (old new : List Read) (name asked : Word) (bytes : List ℕ) → name ≡ asked → ReadsOn told old new → Agreeing old new (λ files. file_in files name ≡ Some bytes) → HasBytes told asked bytes
fetched_as told old new name asked bytes e w h =
    subst (λ a. HasBytes told a bytes) e (of-told told old new (λ files. file_in files name ≡ Some bytes) w h)

-- the file of this name is not fetched
pub missing_as : (told : Option Files) (old new : List Read) (name asked : Word) → name ≡ asked → ReadsOn told old new → Agreeing old new (λ files. file_in files name ≡ None) → FetchEnds told asked (Missing name)
missing_as told old new name asked e w h =
    subst (λ a. FetchEnds told a (Missing name)) e (second.missing (of-told told old new (λ files. file_in files name ≡ None) w h))

pub unread_as : (told : Option Files) (name asked : Word) → name ≡ asked → FetchEnds told asked (ReadFault name)
unread_as told name asked e = subst (λ a. FetchEnds told a (ReadFault name)) e second.unread
