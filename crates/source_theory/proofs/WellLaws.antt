-- The formulas that a walk over files lets pass have modal operators in modal logics alone, and no empty chain.
use Rattle.std.proofs.Common.{◌≡◌, ℕ, zero, suc, ◌+◌, List, [], ◌∷◌, ◌++◌, length, Bool, true, false, ◌&&◌, IsTrue, refl, ◌∙◌, subst, Option, None, Some, Result, Ok, Err, codes, nat_lt, filter, ◌==◌, if◌then◌else◌}
use Rattle.std.specs.List.{list_all, list_any}
use Rattle.std.proofs.lemmas.Bool.{and_from, and_parts}
use Rattle.std.proofs.lemmas.List.Folds.{list_all-append}
use Rattle.calculus.specs.Equality.{list_eq}
use Rattle.cop_base.specs.Outside.{Files, file_in}
use Rattle.tptp_reader.specs.Sources.{Name, Source, Item, formula, include}
use Rattle.tptp_reader.specs.Faults.{wrong, too_deep}
use Rattle.tptp_reader.specs.Reading.{Outcome, reads, fails, IsReading}
use Rattle.problem_build.specs.declared.fault.Cause.TheVariants.{SecondConjecture, UnknownRole}
use Rattle.problem_build.specs.Refusals.{Refusal, bad, input_too_large}
use Rattle.problem_build.specs.Walk.{FileWalk, Passed, Progress, Reader, Walked, absent_in, bytes_walk, fetched_name, file_walk, go_on, greatest_depth, greatest_input, is_among, items_walk, lists_inside, outcome_walk, passed_on, passes, past_list, premise_roles, unless_absent, walk, walked, with_passed}
use Rattle.problem_build.specs.Building.{IsExactReader}
use Rattle.problem_build.proofs.ExpansionLaws.{is_well}
use Rattle.problem_build.proofs.ReadingLaws.{is_well_item, read-well}

abbrev pub is_well_passed : Bool → Passed → Bool
is_well_passed m p = is_well m p.body

abbrev pub AreWell : Bool → Progress → Type 0
AreWell m p = IsTrue (list_all (is_well_passed m) p.passed)

-- what goes on goes on well
abbrev WellOn : Bool → Result Progress Refusal → Type 0
WellOn m (Ok p) = AreWell m p
WellOn m (Err r) = Unit {0}

abbrev pub WellWalked : Bool → Result Walked Refusal → Type 0
WellWalked m (Ok w) = AreWell m w.progress
WellWalked m (Err r) = Unit {0}

either-on : (b m : Bool) (r q : Result Progress Refusal) → WellOn m r → WellOn m q → WellOn m (if b then r else q)
either-on true m r q h k = h
either-on false m r q h k = k

either-walked : (b m : Bool) (r q : Result Walked Refusal) → WellWalked m r → WellWalked m q → WellWalked m (if b then r else q)
either-walked true m r q h k = h
either-walked false m r q h k = k

more-well : (m : Bool) (p : Progress) (c : Bool) (a : Source) → AreWell m p → IsTrue (is_well m a) → AreWell m (with_passed p c a)
more-well m p c a h k =
    list_all-append (is_well_passed m) p.passed (record { is_conjecture = c; body = a } ∷ [])
    ∙ and_from (list_all (is_well_passed m) p.passed) (is_well m a && true) h (and_from (is_well m a) true k refl)

passed-well : (m : Bool) (file role : Name) (role_at : ℕ) (a : Source) (start : ℕ) (p : Progress) → AreWell m p → IsTrue (is_well m a) → WellOn m (passed_on file role role_at a start p)
passed-well m file role role_at a start p h k =
    either-on (list_eq ◌==◌ role (codes "conjecture")) m
    (if list_any (λ (q : Passed). q.is_conjecture) p.passed then Err (bad file start SecondConjecture) else Ok (with_passed p true a))
    (if is_among role premise_roles then Ok (with_passed p false a) else Err (bad file role_at UnknownRole))
    (either-on (list_any (λ (q : Passed). q.is_conjecture) p.passed) m (Err (bad file start SecondConjecture)) (Ok (with_passed p true a)) tt (more-well m p true a h k))
    (either-on (is_among role premise_roles) m (Ok (with_passed p false a)) (Err (bad file role_at UnknownRole)) (more-well m p false a h k) tt)

on-well : (m : Bool) (r : Result Progress Refusal) (next : Progress → Result Walked Refusal) → WellOn m r → ((p : Progress) → AreWell m p → WellWalked m (next p)) → WellWalked m (go_on r next)
on-well m (Ok p) next h k = k p h
on-well m (Err r) next h k = tt

walked-well : (m : Bool) (r : Result Walked Refusal) (next : Walked → Result Walked Refusal) → WellWalked m r → ((w : Walked) → AreWell m w.progress → WellWalked m (next w)) → WellWalked m (go_on r next)
walked-well m (Ok w) next h k = k w h
walked-well m (Err r) next h k = tt

unless-well : (m : Bool) (file : Name) (absent : Option ℕ) (r : Result Walked Refusal) → WellWalked m r → WellWalked m (unless_absent file absent r)
unless-well m file None r h = h
unless-well m file (Some offset) r h = tt

abbrev IsWellWalk : Bool → Option FileWalk → Type 0
IsWellWalk m None = Unit {0}
IsWellWalk m (Some deeper) = (name : Name) (lists : List (List Name)) (p : Progress) → AreWell m p → WellWalked m (deeper name lists p)

items-well : (m : Bool) (deeper : Option FileWalk) → IsWellWalk m deeper → (root file : Name) (lists : List (List Name)) (items : List Item) (w : Walked)
    → IsTrue (list_all (is_well_item m) items) → AreWell m w.progress → WellWalked m (items_walk deeper root file lists items w)
items-well m deeper d root file lists [] w all h = h
items-well m deeper d root file lists (formula kind name role role_at body start ∷ items) w all h =
    let parts = and_parts (is_well m body) (list_all (is_well_item m) items) all in
    on-well m (if passes lists name then passed_on file role role_at body start w.progress else Ok w.progress)
    (λ p. items_walk deeper root file lists items (walked p (w.reached ++ name ∷ [])))
    (either-on (passes lists name) m (passed_on file role role_at body start w.progress) (Ok w.progress) (passed-well m file role role_at body start w.progress h parts.0) h)
    (λ p k. items-well m deeper d root file lists items (walked p (w.reached ++ name ∷ [])) parts.1 k)
items-well m None d root file lists (include included names start ∷ items) w all h = tt
items-well m (Some deeper) d root file lists (include included names start ∷ items) w all h =
    let parts = and_parts true (list_all (is_well_item m) items) all in
    walked-well m (deeper (fetched_name root included) (lists_inside names lists) w.progress)
    (λ v. unless_absent file (absent_in names v.reached) (items_walk (Some deeper) root file lists items (walked v.progress (w.reached ++ past_list names v.reached))))
    (d (fetched_name root included) (lists_inside names lists) w.progress h)
    (λ v k. unless-well m file (absent_in names v.reached) (items_walk (Some deeper) root file lists items (walked v.progress (w.reached ++ past_list names v.reached)))
    (items-well m (Some deeper) d root file lists items (walked v.progress (w.reached ++ past_list names v.reached)) parts.1 k))

outcome-well : (m : Bool) (deeper : Option FileWalk) → IsWellWalk m deeper → (root file : Name) (lists : List (List Name)) (p : Progress) (text : List ℕ) (outcome : Outcome (List Item))
    → IsReading m text outcome → AreWell m p → WellWalked m (outcome_walk deeper root file lists p outcome)
outcome-well m deeper d root file lists p text (reads items) r h = items-well m deeper d root file lists items (walked p []) (read-well m text items r) h
outcome-well m deeper d root file lists p text (fails (wrong offset cause)) r h = tt
outcome-well m deeper d root file lists p text (fails (too_deep offset)) r h = tt

bytes-well : (m : Bool) (read : Reader) → IsExactReader m read → (deeper : Option FileWalk) → IsWellWalk m deeper → (root file : Name) (lists : List (List Name)) (p : Progress) (bytes : Option (List ℕ))
    → AreWell m p → WellWalked m (bytes_walk read deeper root file lists p bytes)
bytes-well m read exact deeper d root file lists p None h = tt
bytes-well m read exact deeper d root file lists p (Some bytes) h =
    either-walked (nat_lt greatest_input (p.bytes + length bytes)) m (Err input_too_large) (outcome_walk deeper root file lists (record p { bytes = p.bytes + length bytes }) (read bytes)) tt
    (outcome-well m deeper d root file lists (record p { bytes = p.bytes + length bytes }) bytes (read bytes) (exact bytes) h)

file-well : (m : Bool) (read : Reader) → IsExactReader m read → (files : Files) (root : Name) (depth : ℕ) (file : Name) (lists : List (List Name)) (p : Progress)
    → AreWell m p → WellWalked m (file_walk read files root depth file lists p)
file-well m read exact files root zero file lists p h = bytes-well m read exact None tt root file lists p (file_in files file) h
file-well m read exact files root (suc depth) file lists p h =
    bytes-well m read exact (Some (file_walk read files root depth)) (λ name among q k. file-well m read exact files root depth name among q k) root file lists p (file_in files file) h

pub walk-well : (m : Bool) (read : Reader) → IsExactReader m read → (files : Files) (name root : Name) (w : Walked) → walk read files name root ≡ Ok w → AreWell m w.progress
walk-well m read exact files name root w e =
    subst (WellWalked m) e (file-well m read exact files root greatest_depth name [] (record { bytes = 0; passed = [] }) refl)

-- those that are kept are as well as all
pub kept-well : (m : Bool) (keep : Passed → Bool) (items : List Passed) → IsTrue (list_all (is_well_passed m) items) → IsTrue (list_all (is_well_passed m) (filter keep items))
kept-well m keep [] h = refl
kept-well m keep (p ∷ ps) h =
    let parts = and_parts (is_well_passed m p) (list_all (is_well_passed m) ps) h in
    by (keep p) parts.0 (kept-well m keep ps parts.1)
  where
    by : (b : Bool) → IsTrue (is_well_passed m p) → IsTrue (list_all (is_well_passed m) (filter keep ps)) → IsTrue (list_all (is_well_passed m) (if b then p ∷ filter keep ps else filter keep ps))
    by true q r = and_from (is_well_passed m p) (list_all (is_well_passed m) (filter keep ps)) q r
    by false q r = r
