-- The walk over a file and the files that it includes: which formulas pass, or the first refusal.
-- A file is fetched, its syntax is judged as a whole, and then its items are gone through in order. An include is walked
-- each time it stands, and then the names that it selects are judged.
use Rattle.std.specs.Prelude.{ℕ, zero, suc, ◌+◌, List, [], ◌∷◌, ◌++◌, length, Bool, true, false, ◌==◌, Option, None, Some, Result, Ok, Err, codes, nat_lt, if◌then◌else◌}
use Rattle.std.specs.List.{list_all, list_any, filter}
use Rattle.calculus.specs.Equality.{list_eq}
use Rattle.cop_base.specs.Outside.{Files, file_in}
use Rattle.tptp_reader.specs.declared.fault.ReadCause.{ReadCause}
use Rattle.tptp_reader.specs.declared.fault.ReadCause.TheVariants as reading
use Rattle.tptp_reader.specs.Sources.{Name, Source, Item, formula, include}
use Rattle.tptp_reader.specs.Faults.{wrong, too_deep}
use Rattle.tptp_reader.specs.Reading.{Outcome, reads, fails}
use Rattle.problem_build.specs.declared.fault.Cause.{Cause}
use Rattle.problem_build.specs.declared.fault.Cause.TheVariants.{Syntax, Unsupported, Reserved, WrongLanguage, SecondConjecture, UnknownRole, IncludeTooDeep, IncludeNameAbsent}
use Rattle.problem_build.specs.Refusals.{Refusal, missing, input_too_large, nesting_too_deep, bad}

-- ---- what is reached

-- a formula that passes, and whether it is the conjecture
pub record Passed : Type 0 where
  pub is_conjecture : Bool
  pub body : Source

-- the bytes of all files that were fetched, and the formulas that pass, in order
pub record Progress : Type 0 where
  pub bytes : ℕ
  pub passed : List Passed

-- also the names of the items that are reached in a file, those of its includes past their own lists
pub record Walked : Type 0 where
  pub progress : Progress
  pub reached : List Name

-- goes on unless there is a refusal
abbrev pub go_on : {A B : Type 0} → Result A Refusal → (A → Result B Refusal) → Result B Refusal
go_on (Ok a) next = next a
go_on (Err r) next = Err r

-- ---- formulas

abbrev pub is_among : Name → List Name → Bool
is_among name names = list_any (list_eq ◌==◌ name) names

-- the name is in every list that encloses the item, the outer lists first
abbrev pub passes : List (List Name) → Name → Bool
passes lists name = list_all (is_among name) lists

abbrev pub premise_roles : List Name
premise_roles = codes "axiom" ∷ codes "hypothesis" ∷ codes "definition" ∷ codes "assumption" ∷ codes "lemma" ∷ codes "theorem" ∷ codes "corollary" ∷ codes "negated_conjecture" ∷ []

abbrev pub with_passed : Progress → Bool → Source → Progress
with_passed p c body = record p { passed = p.passed ++ record { is_conjecture = c; body = body } ∷ [] }

-- the role is judged before the second conjecture
abbrev pub passed_on : (file role : Name) (role_at : ℕ) (body : Source) (start : ℕ) → Progress → Result Progress Refusal
passed_on file role role_at body start p =
    if list_eq ◌==◌ role (codes "conjecture") then
    (if list_any (λ (q : Passed). q.is_conjecture) p.passed then Err (bad file start SecondConjecture) else Ok (with_passed p true body))
    else (if is_among role premise_roles then Ok (with_passed p false body) else Err (bad file role_at UnknownRole))

-- ---- includes

-- the name by which an included file is fetched
abbrev pub fetched_name : (root file : Name) → Name
fetched_name [] file = file
fetched_name (r ∷ root) [] = r ∷ root ++ 47 ∷ []
fetched_name (r ∷ root) (b ∷ bs) = if b == 47 then b ∷ bs else r ∷ root ++ 47 ∷ b ∷ bs

abbrev pub names_of : List (Name × ℕ) → List Name
names_of [] = []
names_of (n ∷ ns) = n.0 ∷ names_of ns

abbrev pub lists_inside : Option (List (Name × ℕ)) → List (List Name) → List (List Name)
lists_inside None lists = lists
lists_inside (Some names) lists = lists ++ names_of names ∷ []

-- the names reached in the included file, past the include's own list
abbrev pub past_list : Option (List (Name × ℕ)) → List Name → List Name
past_list None reached = reached
past_list (Some names) reached = filter (λ n. is_among n (names_of names)) reached

-- the offset of the first name of the list that is not reached
abbrev pub first_absent : List (Name × ℕ) → List Name → Option ℕ
first_absent [] reached = None
first_absent (n ∷ ns) reached = if is_among n.0 reached then first_absent ns reached else Some n.1

abbrev pub absent_in : Option (List (Name × ℕ)) → List Name → Option ℕ
absent_in None reached = None
absent_in (Some names) reached = first_absent names reached

-- goes on unless a name is absent
abbrev pub unless_absent : {A : Type 0} → (file : Name) → Option ℕ → Result A Refusal → Result A Refusal
unless_absent file None next = next
unless_absent file (Some offset) next = Err (bad file offset IncludeNameAbsent)

-- ---- items and files

-- the walk over the file of a name, inside these lists
abbrev pub FileWalk : Type 0
FileWalk = Name → List (List Name) → Progress → Result Walked Refusal

abbrev pub walked : Progress → List Name → Walked
walked p names = record { progress = p; reached = names }

-- `deeper` walks over an included file; there is none where includes would be too deep
abbrev pub items_walk : Option FileWalk → (root file : Name) → List (List Name) → List Item → Walked → Result Walked Refusal
items_walk deeper root file lists [] w = Ok w
items_walk deeper root file lists (formula kind name role role_at body start ∷ items) w =
    go_on (if passes lists name then passed_on file role role_at body start w.progress else Ok w.progress)
    (λ p. items_walk deeper root file lists items (walked p (w.reached ++ name ∷ [])))
items_walk None root file lists (include included names start ∷ items) w = Err (bad file start IncludeTooDeep)
items_walk (Some deeper) root file lists (include included names start ∷ items) w =
    go_on (deeper (fetched_name root included) (lists_inside names lists) w.progress)
    (λ v. unless_absent file (absent_in names v.reached)
    (items_walk (Some deeper) root file lists items (walked v.progress (w.reached ++ past_list names v.reached))))

abbrev pub read_cause : ReadCause → Cause
read_cause reading.Syntax = Syntax
read_cause reading.Unsupported = Unsupported
read_cause reading.Reserved = Reserved
read_cause reading.WrongLanguage = WrongLanguage

-- what reading the bytes of a file leads to
abbrev pub outcome_walk : Option FileWalk → (root file : Name) → List (List Name) → Progress → Outcome (List Item) → Result Walked Refusal
outcome_walk deeper root file lists p (reads items) = items_walk deeper root file lists items (walked p [])
outcome_walk deeper root file lists p (fails (wrong offset cause)) = Err (bad file offset (read_cause cause))
outcome_walk deeper root file lists p (fails (too_deep offset)) = Err nesting_too_deep

-- the most bytes of all files together
abbrev pub greatest_input : ℕ
greatest_input = 16777216

-- how a text is read
abbrev pub Reader : Type 0
Reader = List ℕ → Outcome (List Item)

abbrev pub bytes_walk : Reader → Option FileWalk → (root : Name) → (file : Name) → List (List Name) → Progress → Option (List ℕ) → Result Walked Refusal
bytes_walk read deeper root file lists p None = Err (missing file)
bytes_walk read deeper root file lists p (Some bytes) =
    if nat_lt greatest_input (p.bytes + length bytes) then Err input_too_large
    else outcome_walk deeper root file lists (record p { bytes = p.bytes + length bytes }) (read bytes)

-- so many includes may stand inside one another below the file
abbrev pub file_walk : Reader → Files → (root : Name) → ℕ → FileWalk
file_walk read files root zero file lists p = bytes_walk read None root file lists p (file_in files file)
file_walk read files root (suc depth) file lists p = bytes_walk read (Some (file_walk read files root depth)) root file lists p (file_in files file)

-- how many includes may stand inside one another
abbrev pub greatest_depth : ℕ
greatest_depth = 16

-- the formulas that pass, from the main file on
abbrev pub walk : Reader → Files → (name root : Name) → Result Walked Refusal
walk read files name root = file_walk read files root greatest_depth name [] (record { bytes = 0; passed = [] })
