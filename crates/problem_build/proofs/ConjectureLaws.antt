-- At most one formula that passes in the walk is a conjecture.
use Rattle.std.proofs.Common.{◌≡◌, ℕ, zero, suc, ◌+◌, ◌≤◌, Bool, true, false, ◌||◌, ◌==◌, List, [], ◌∷◌, ◌++◌, Option, None, Some, length, if◌then◌else◌, refl, sym, ◌∙◌, ap, subst, arith}
use Rattle.std.specs.Prelude.{Result, Ok, Err, codes, nat_lt}
use Rattle.std.specs.List.{list_any}
use Rattle.std.proofs.lemmas.Bool.{false≢true}
use Rattle.std.proofs.lemmas.List.{length-append}
use Rattle.std.proofs.lemmas.List.Elements.{filter-append}
use Rattle.calculus.specs.Equality.{list_eq}
use Rattle.cop_base.specs.Outside.{Files, file_in}
use Rattle.tptp_reader.specs.Faults.{wrong, too_deep}
use Rattle.tptp_reader.specs.Reading.{Outcome, reads, fails}
use Rattle.tptp_reader.specs.Sources.{Name, Source, Item, formula, include}
use Rattle.problem_build.specs.declared.fault.Cause.TheVariants.{SecondConjecture, UnknownRole}
use Rattle.problem_build.specs.Building.{conjectures}
use Rattle.problem_build.specs.Refusals.{Refusal, bad, input_too_large}
use Rattle.problem_build.specs.Walk.{FileWalk, Passed, Progress, Reader, Walked, absent_in, bytes_walk, fetched_name, file_walk, go_on, greatest_depth, greatest_input, is_among, items_walk, lists_inside, outcome_walk, passed_on, passes, past_list, premise_roles, unless_absent, walk, walked, with_passed}

abbrev Few : List Passed → Type 0
Few ps = length (conjectures ps) ≤ 1

-- ---- one formula more

none-yet : (ps : List Passed) → list_any (λ (q : Passed). q.is_conjecture) ps ≡ false → length (conjectures ps) ≡ 0
none-yet [] h = refl
none-yet (p ∷ ps) h = by p.is_conjecture h (λ k. none-yet ps k)
  where
    by : (b : Bool) → (b || list_any (λ (q : Passed). q.is_conjecture) ps) ≡ false → (list_any (λ (q : Passed). q.is_conjecture) ps ≡ false → length (conjectures ps) ≡ 0)
        → length (if b then p ∷ conjectures ps else conjectures ps) ≡ 0
    by true k next = absurd (false≢true (sym k))
    by false k next = next k

added : (ps : List Passed) (x : Passed) → length (conjectures (ps ++ x ∷ [])) ≡ length (conjectures ps) + length (conjectures (x ∷ []))
added ps x = ap length (filter-append (λ (q : Passed). q.is_conjecture) ps (x ∷ [])) ∙ length-append (conjectures ps) (conjectures (x ∷ []))

passed-few : (file role : Name) (role_at : ℕ) (body : Source) (start : ℕ) (p q : Progress) → Few p.passed → passed_on file role role_at body start p ≡ Ok q → Few q.passed
passed-few file role role_at body start p q few h =
    by (list_eq ◌==◌ role (codes "conjecture")) (list_any (λ (q : Passed). q.is_conjecture) p.passed) (is_among role premise_roles) refl h
  where
    same : (c : Bool) → ◌≡◌ {A = Result Progress Refusal} (Ok (with_passed p c body)) (Ok q) → with_passed p c body ≡ q
    same c e = cc

    by : (a b c : Bool) → list_any (λ (q : Passed). q.is_conjecture) p.passed ≡ b
        → (if a then (if b then Err (bad file start SecondConjecture) else Ok (with_passed p true body)) else (if c then Ok (with_passed p false body) else Err (bad file role_at UnknownRole))) ≡ Ok q
        → Few q.passed
    by true true c e k = absurd (cc)
    by true false c e k =
        let z = none-yet p.passed e in let l = added p.passed (record { is_conjecture = true; body = body }) in
        subst (λ r. Few r.passed) (same true k) (omega arith)
    by false b true e k = let l = added p.passed (record { is_conjecture = false; body = body }) in subst (λ r. Few r.passed) (same false k) (omega arith)
    by false b false e k = absurd (cc)

judged-few : (b : Bool) (file role : Name) (role_at : ℕ) (body : Source) (start : ℕ) (p q : Progress) → Few p.passed → (if b then passed_on file role role_at body start p else Ok p) ≡ Ok q → Few q.passed
judged-few true file role role_at body start p q few h = passed-few file role role_at body start p q few h
judged-few false file role role_at body start p q few h = let same : p ≡ q = cc in subst (λ r. Few r.passed) same few

-- ---- items and files

abbrev Keeps : FileWalk → Type 0
Keeps deeper = (name : Name) (lists : List (List Name)) (p : Progress) (w : Walked) → Few p.passed → deeper name lists p ≡ Ok w → Few w.progress.passed

abbrev KeepsIf : Option FileWalk → Type 0
KeepsIf None = Unit {0}
KeepsIf (Some deeper) = Keeps deeper

items-few : (deeper : Option FileWalk) → KeepsIf deeper → (root file : Name) (lists : List (List Name)) (items : List Item) (w v : Walked) → Few w.progress.passed
    → items_walk deeper root file lists items w ≡ Ok v → Few v.progress.passed
items-few deeper k root file lists [] w v few h = let same : w ≡ v = cc in subst (λ u. Few u.progress.passed) same few
items-few deeper k root file lists (formula kind name role role_at body start ∷ items) w v few h =
    by (if passes lists name then passed_on file role role_at body start w.progress else Ok w.progress) refl h
    (λ p f e. items-few deeper k root file lists items (walked p (w.reached ++ name ∷ [])) v f e)
  where
    by : (o : Result Progress Refusal) → (if passes lists name then passed_on file role role_at body start w.progress else Ok w.progress) ≡ o
        → go_on o (λ p. items_walk deeper root file lists items (walked p (w.reached ++ name ∷ []))) ≡ Ok v
        → ((p : Progress) → Few p.passed → items_walk deeper root file lists items (walked p (w.reached ++ name ∷ [])) ≡ Ok v → Few v.progress.passed) → Few v.progress.passed
    by (Err r) e g next = absurd (cc)
    by (Ok p) e g next = next p (judged-few (passes lists name) file role role_at body start w.progress p few e) g
items-few None k root file lists (include included names start ∷ items) w v few h = absurd (cc)
items-few (Some deeper) k root file lists (include included names start ∷ items) w v few h =
    by (deeper (fetched_name root included) (lists_inside names lists) w.progress) refl h
    (λ u f e. items-few (Some deeper) k root file lists items (walked u.progress (w.reached ++ past_list names u.reached)) v f e)
  where
    inner : (u : Walked) (o : Option ℕ) → unless_absent file o (items_walk (Some deeper) root file lists items (walked u.progress (w.reached ++ past_list names u.reached))) ≡ Ok v
        → items_walk (Some deeper) root file lists items (walked u.progress (w.reached ++ past_list names u.reached)) ≡ Ok v
    inner u None e = e
    inner u (Some offset) e = absurd (cc)

    by : (o : Result Walked Refusal) → deeper (fetched_name root included) (lists_inside names lists) w.progress ≡ o
        → go_on o (λ u. unless_absent file (absent_in names u.reached) (items_walk (Some deeper) root file lists items (walked u.progress (w.reached ++ past_list names u.reached)))) ≡ Ok v
        → ((u : Walked) → Few u.progress.passed → items_walk (Some deeper) root file lists items (walked u.progress (w.reached ++ past_list names u.reached)) ≡ Ok v → Few v.progress.passed)
        → Few v.progress.passed
    by (Err r) e g next = absurd (cc)
    by (Ok u) e g next = next u (k (fetched_name root included) (lists_inside names lists) w.progress u few e) (inner u (absent_in names u.reached) g)

bytes-few : (read : Reader) (deeper : Option FileWalk) → KeepsIf deeper → (root file : Name) (lists : List (List Name)) (p : Progress) (o : Option (List ℕ)) (w : Walked) → Few p.passed
    → bytes_walk read deeper root file lists p o ≡ Ok w → Few w.progress.passed
bytes-few read deeper k root file lists p None w few h = absurd (cc)
bytes-few read deeper k root file lists p (Some bytes) w few h = by (nat_lt greatest_input (p.bytes + length bytes)) (read bytes) h
  where
    by : (b : Bool) (o : Outcome (List Item)) → (if b then Err input_too_large else outcome_walk deeper root file lists (record p { bytes = p.bytes + length bytes }) o) ≡ Ok w → Few w.progress.passed
    by true o e = absurd (cc)
    by false (reads items) e = items-few deeper k root file lists items (walked (record p { bytes = p.bytes + length bytes }) []) w few e
    by false (fails (wrong offset cause)) e = absurd (cc)
    by false (fails (too_deep offset)) e = absurd (cc)

file-few : (read : Reader) (files : Files) (root : Name) (n : ℕ) → Keeps (file_walk read files root n)
file-few read files root zero name lists p w few h = bytes-few read None tt root name lists p (file_in files name) w few h
file-few read files root (suc n) name lists p w few h =
    bytes-few read (Some (file_walk read files root n)) (file-few read files root n) root name lists p (file_in files name) w few h

pub one-conjecture : (read : Reader) (files : Files) (name root : Name) (w : Walked) → walk read files name root ≡ Ok w → length (conjectures w.progress.passed) ≤ 1
one-conjecture read files name root w h = file-few read files root greatest_depth name [] (record { bytes = 0; passed = [] }) w (omega arith) h
