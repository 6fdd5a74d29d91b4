-- What the parts of the walk promise. The outcome of a walk is told over the files as they are and, for each name, over
-- the files without it: so a file that cannot be read is one at which the walk over the others would end.
use Rattle.std.specs.Prelude.{◌≡◌, ◌⊎◌, ◌≤◌, ℕ, zero, suc, List, [], ◌∷◌, ◌++◌, length, map, reverse, Bool, Option, None, Some, Result, Ok, Err, IfSome, IsTrue}
use Rattle.std.specs.Prelude.{Vec}
use Rattle.std.specs.List.{list_all}
use Rattle.std.specs.declared.alloc.Global.{Global}
use Rattle.cop_base.specs.Outside.{Files, Rose, file_in}
use Rattle.cop_base.specs.Reads as seen
use Rattle.cop_base.specs.Reads.{Read, EndsWith}
use Rattle.tptp_reader.specs.declared.item.Item as program
use Rattle.tptp_reader.specs.ItemView.{the_item}
use Rattle.tptp_reader.specs.Sources.{Name, Source, Item}
use Rattle.tptp_reader.specs.Reading.{reads, IsReading}
use Rattle.problem_build.specs.declared.fault.BuildFault.{BuildFault}
use Rattle.problem_build.specs.declared.fault.BuildFault.TheVariants.{Missing, Failed, InputTooLarge, NestingTooDeep, FormulaTooLarge, TooManySymbols, Bad, NoMemory}
use Rattle.problem_build.specs.declared.progress.Walk.{Walk}
use Rattle.problem_build.specs.Answers.{the_refusal}
use Rattle.problem_build.specs.Refusals.{Refusal, missing, input_too_large, nesting_too_deep, formula_too_large, too_many_symbols, bad}
use Rattle.problem_build.specs.Walk.{FileWalk, Passed, Progress, Reader, Walked, bytes_walk, file_walk, greatest_input, items_walk, names_of, unless_absent, walked, with_passed}
use Rattle.problem_build.specs.Building.{without}
use Rattle.problem_build.specs.Passing.{item_passes, the_passed}

abbrev pub progress_of : Walk → Progress
progress_of w = record { bytes = w.bytes; passed = map the_passed w.passed.items }

abbrev pub lists_of : Walk → List (List Name)
lists_of w = map names_of w.lists.items

abbrev pub pending_items : List program.Item → List Item
pending_items items = map the_item (reverse items)

-- ---- outcomes

abbrev pub over : Option Name → Files → Files
over None files = files
over (Some name) files = without name files

-- the outcome of a walk, by the file that is left out
abbrev pub Outcomes : Type 0
Outcomes = Option Name → Result Walked Refusal

-- it ends at the file that is left out
abbrev pub IsGone : Option Name → Result Walked Refusal → Type 0
IsGone None outcome = ⊥
IsGone (Some name) outcome = outcome ≡ Err (missing name)

-- one leads to the other, unless it ends at a file that is left out
abbrev pub GoesOn : (from to : Outcomes) → Type 0
GoesOn from to = (omitted : Option Name) → IsGone omitted (from omitted) ⊎ (from omitted ≡ to omitted)

abbrev pub EndsIn : Outcomes → BuildFault → Type 0
EndsIn from (Missing name) = from None ≡ Err (missing name)
EndsIn from (Failed name) = from (Some name) ≡ Err (missing name)
EndsIn from InputTooLarge = from None ≡ Err input_too_large
EndsIn from NestingTooDeep = from None ≡ Err nesting_too_deep
EndsIn from FormulaTooLarge = from None ≡ Err formula_too_large
EndsIn from TooManySymbols = from None ≡ Err too_many_symbols
EndsIn from (Bad file offset cause) = from None ≡ Err (bad file offset cause)
EndsIn from NoMemory = Unit {0}

abbrev pub StepsTo : {A : Type 0} → (from to : Outcomes) → Result A BuildFault → Type 0
StepsTo from to (Ok x) = GoesOn from to
StepsTo from to (Err fault) = EndsIn from fault

-- ---- files and items

-- the walk over an included file; there is none at depth 0
abbrev pub deeper : Reader → Files → (root : Name) → ℕ → Option FileWalk
deeper read files root zero = None
deeper read files root (suc d) = Some (file_walk read files root d)

abbrev pub file_outcomes : Reader → Files → (root file : Name) → ℕ → List (List Name) → Progress → Outcomes
file_outcomes read files root file depth lists p omitted =
    bytes_walk read (deeper read (over omitted files) root depth) root file lists p (file_in (over omitted files) file)

abbrev pub items_outcomes : Reader → Files → (root file : Name) → ℕ → List (List Name) → List Item → Progress → List Name → Outcomes
items_outcomes read files root file depth lists items p reached omitted =
    items_walk (deeper read (over omitted files) root depth) root file lists items (walked p reached)

-- the reading of a file
abbrev pub ReadsTo : Reader → Files → (root file : Name) → ℕ → List (List Name) → (old new : Walk)
    → Result (Vec program.Item Global) BuildFault → Type 0
ReadsTo read files root file depth lists old new (Ok items) = GoesOn (file_outcomes read files root file depth lists (progress_of old))
    (items_outcomes read files root file depth lists (pending_items items.items) (progress_of new) [])
ReadsTo read files root file depth lists old new (Err fault) = EndsIn (file_outcomes read files root file depth lists (progress_of old)) fault

-- the walk over items
abbrev pub LeadsTo : Outcomes → Walk → Result (Vec Name Global) BuildFault → Type 0
LeadsTo from new (Ok reached) = GoesOn from (λ _. Ok (walked (progress_of new) reached.items))
LeadsTo from new (Err fault) = EndsIn from fault

-- whether a formula passes, by its role and the lists
abbrev pub IsJudged : Result Progress Refusal → Progress → Source → Result Bool BuildFault → Type 0
IsJudged judged p body (Ok is_conjecture) = judged ≡ Ok (with_passed p is_conjecture body)
IsJudged judged p body (Err fault) = IfSome (the_refusal fault) (λ r. judged ≡ Err r)

abbrev pub LetsPass : {A : Type 0} → Result Progress Refusal → Walk → Result A BuildFault → Type 0
LetsPass judged new (Ok x) = judged ≡ Ok (progress_of new)
LetsPass judged new (Err fault) = IfSome (the_refusal fault) (λ r. judged ≡ Err r)

-- the lists inside an include
abbrev pub with_list : {A : Type 0} → Option A → List A → List A
with_list None lists = lists
with_list (Some list) lists = lists ++ list ∷ []

-- the judgement of the names of an include, where the walk goes on in some way
abbrev pub IsSelected : {A : Type 0} → Name → Option ℕ → Result A BuildFault → Type 0
IsSelected file absent (Ok x) = absent ≡ None
IsSelected file absent (Err fault) = IfSome (the_refusal fault) (λ r. (next : Result Walked Refusal) → unless_absent file absent next ≡ Err r)

-- ---- what is read

-- a test that the formulas of all texts of at most 16 MiB pass
abbrev pub HoldsOfTexts : Bool → (Source → Bool) → Type 0
HoldsOfTexts modal test = (text : List ℕ) (items : List Item) → length text ≤ greatest_input → IsReading modal text (reads items) → IsTrue (list_all (item_passes test) items)

abbrev pub AllPass : (Source → Bool) → Walk → Type 0
AllPass test walk = IsTrue (list_all (λ (p : Passed). test p.body) (map the_passed walk.passed.items))

-- ---- counts

-- Missing and Failed come where the counts of the library say so, and name the file of its last answer
abbrev pub IsCounted : (faults faults' misses misses' : ℕ) → List Read → BuildFault → Type 0
IsCounted f g m k after (Missing n) = Rose m k × EndsWith after n seen.absent
IsCounted f g m k after (Failed n) = Rose f g × EndsWith after n seen.failed
IsCounted f g m k after InputTooLarge = Unit {0}
IsCounted f g m k after NestingTooDeep = Unit {0}
IsCounted f g m k after FormulaTooLarge = Unit {0}
IsCounted f g m k after TooManySymbols = Unit {0}
IsCounted f g m k after (Bad f' o c) = Unit {0}
IsCounted f g m k after NoMemory = Unit {0}
