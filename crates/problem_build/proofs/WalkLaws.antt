-- The steps of the walk.
use Rattle.std.proofs.Common.{◌≡◌, ◌⊎◌, inl, inr, ℕ, zero, suc, List, ◌∷◌, ◌++◌, true, Option, None, Some, Result, Ok, Err, IfSome, if◌then◌else◌, refl, sym, ◌∙◌, ap, subst}
use Rattle.std.proofs.lemmas.Bool.{false≢true}
use Rattle.cop_base.specs.Outside.{Files, file_in}
use Rattle.tptp_reader.specs.Sources.{Name, Source, Item, include}
use Rattle.problem_build.specs.declared.fault.BuildFault.{BuildFault}
use Rattle.problem_build.specs.declared.fault.BuildFault.TheVariants.{Missing, Failed, InputTooLarge, NestingTooDeep, FormulaTooLarge, TooManySymbols, Bad, NoMemory}
use Rattle.problem_build.specs.Answers.{the_refusal}
use Rattle.problem_build.specs.Outside.{is_inside}
use Rattle.problem_build.specs.Refusals.{Refusal, missing}
use Rattle.problem_build.specs.Walk.{Progress, Reader, Walked, absent_in, bytes_walk, fetched_name, file_walk, go_on, items_walk, lists_inside, passed_on, passes, past_list, unless_absent, walked}
use Rattle.problem_build.specs.Walking.{EndsIn, GoesOn, IsGone, Outcomes, deeper, file_outcomes, items_outcomes, over}

chained : (omitted : Option Name) (x y z : Result Walked Refusal) → IsGone omitted x ⊎ (x ≡ y) → IsGone omitted y ⊎ (y ≡ z) → IsGone omitted x ⊎ (x ≡ z)
chained omitted x y z (inl h) k = inl h
chained omitted x y z (inr e) (inl k) = inl (subst (IsGone omitted) (sym e) k)
chained omitted x y z (inr e) (inr f) = inr (e ∙ f)

pub goes-goes : (a b c : Outcomes) → GoesOn a b → GoesOn b c → GoesOn a c
goes-goes a b c h k omitted = chained omitted (a omitted) (b omitted) (c omitted) (h omitted) (k omitted)

at-none : (x y : Result Walked Refusal) → IsGone None x ⊎ (x ≡ y) → x ≡ y
at-none x y (inl h) = absurd h
at-none x y (inr e) = e

at-some : (n : Name) (x y : Result Walked Refusal) → IsGone (Some n) x ⊎ (x ≡ y) → y ≡ Err (missing n) → x ≡ Err (missing n)
at-some n x y (inl h) k = h
at-some n x y (inr e) k = e ∙ k

pub goes-ends : (a b : Outcomes) → GoesOn a b → (fault : BuildFault) → EndsIn b fault → EndsIn a fault
goes-ends a b h (Missing n) k = at-none (a None) (b None) (h None) ∙ k
goes-ends a b h (Failed n) k = at-some n (a (Some n)) (b (Some n)) (h (Some n)) k
goes-ends a b h InputTooLarge k = at-none (a None) (b None) (h None) ∙ k
goes-ends a b h NestingTooDeep k = at-none (a None) (b None) (h None) ∙ k
goes-ends a b h FormulaTooLarge k = at-none (a None) (b None) (h None) ∙ k
goes-ends a b h TooManySymbols k = at-none (a None) (b None) (h None) ∙ k
goes-ends a b h (Bad f o c) k = at-none (a None) (b None) (h None) ∙ k
goes-ends a b h NoMemory k = tt

pub refused-ends : (a : Outcomes) (fault : BuildFault) → is_inside fault ≡ true → IfSome (the_refusal fault) (λ r. a None ≡ Err r) → EndsIn a fault
refused-ends a (Missing n) i k = absurd (false≢true i)
refused-ends a (Failed n) i k = absurd (false≢true i)
refused-ends a InputTooLarge i k = k
refused-ends a NestingTooDeep i k = k
refused-ends a FormulaTooLarge i k = k
refused-ends a TooManySymbols i k = k
refused-ends a (Bad f o c) i k = k
refused-ends a NoMemory i k = tt

pub if-some : {P Q : Refusal → Type 0} (o : Option Refusal) → ((r : Refusal) → P r → Q r) → IfSome o P → IfSome o Q
if-some None f h = h
if-some (Some r) f h = f r h

-- ---- formulas

abbrev pub judged : (lists : List (List Name)) (file name role : Name) (role_at : ℕ) (body : Source) (start : ℕ) → Progress → Result Progress Refusal
judged lists file name role role_at body start p = if passes lists name then passed_on file role role_at body start p else Ok p

-- ---- includes

go_on-omitted : (omitted : Option Name) (x : Result Walked Refusal) (next : Walked → Result Walked Refusal) (v : Walked) → IsGone omitted x ⊎ (x ≡ Ok v) → IsGone omitted (go_on x next) ⊎ (go_on x next ≡ next v)
go_on-omitted None x next v (inl h) = absurd h
go_on-omitted (Some n) x next v (inl h) = inl (ap (λ o. go_on o next) h)
go_on-omitted omitted x next v (inr e) = inr (ap (λ o. go_on o next) e)

go_on-ends : (inner : Outcomes) (next : Option Name → Walked → Result Walked Refusal) (fault : BuildFault) → EndsIn inner fault → EndsIn (λ omitted. go_on (inner omitted) (next omitted)) fault
go_on-ends inner next (Missing n) h = ap (λ o. go_on o (next None)) h
go_on-ends inner next (Failed n) h = ap (λ o. go_on o (next (Some n))) h
go_on-ends inner next InputTooLarge h = ap (λ o. go_on o (next None)) h
go_on-ends inner next NestingTooDeep h = ap (λ o. go_on o (next None)) h
go_on-ends inner next FormulaTooLarge h = ap (λ o. go_on o (next None)) h
go_on-ends inner next TooManySymbols h = ap (λ o. go_on o (next None)) h
go_on-ends inner next (Bad f o c) h = ap (λ o. go_on o (next None)) h
go_on-ends inner next NoMemory h = tt

file_walk-is : (read : Reader) (files : Files) (root file : Name) (d : ℕ) (lists : List (List Name)) (p : Progress)
    → file_walk read files root d file lists p ≡ bytes_walk read (deeper read files root d) root file lists p (file_in files file)
file_walk-is read files root file zero lists p = refl
file_walk-is read files root file (suc d) lists p = refl

abbrev rest_walk : Reader → Files → (root file : Name) → ℕ → List (List Name) → Option (List (Name × ℕ)) → List Item → List Name → Option Name → Walked → Result Walked Refusal
rest_walk read files root file d lists names rest reached omitted v =
    unless_absent file (absent_in names v.reached)
    (items_walk (Some (file_walk read (over omitted files) root d)) root file lists rest (walked v.progress (reached ++ past_list names v.reached)))

include-opens : (read : Reader) (files : Files) (root file : Name) (d : ℕ) (lists : List (List Name)) (included : Name) (names : Option (List (Name × ℕ))) (start : ℕ) (rest : List Item) (p : Progress) (reached : List Name)
    → GoesOn (items_outcomes read files root file (suc d) lists (include included names start ∷ rest) p reached)
    (λ omitted. go_on (file_outcomes read files root (fetched_name root included) d (lists_inside names lists) p omitted) (rest_walk read files root file d lists names rest reached omitted))
include-opens read files root file d lists included names start rest p reached omitted =
    inr (ap (λ o. go_on o (rest_walk read files root file d lists names rest reached omitted)) (file_walk-is read (over omitted files) root (fetched_name root included) d (lists_inside names lists) p))

pub include-walked : (read : Reader) (files : Files) (root file : Name) (d : ℕ) (lists : List (List Name)) (included : Name) (names : Option (List (Name × ℕ))) (start : ℕ) (rest : List Item) (p : Progress) (reached : List Name) (v : Walked)
    → GoesOn (file_outcomes read files root (fetched_name root included) d (lists_inside names lists) p) (λ _. Ok v)
    → GoesOn (items_outcomes read files root file (suc d) lists (include included names start ∷ rest) p reached)
    (λ omitted. rest_walk read files root file d lists names rest reached omitted v)
include-walked read files root file d lists included names start rest p reached v h omitted =
    chained omitted (items_outcomes read files root file (suc d) lists (include included names start ∷ rest) p reached omitted)
    (go_on (file_outcomes read files root (fetched_name root included) d (lists_inside names lists) p omitted) (rest_walk read files root file d lists names rest reached omitted))
    (rest_walk read files root file d lists names rest reached omitted v)
    (include-opens read files root file d lists included names start rest p reached omitted)
    (go_on-omitted omitted (file_outcomes read files root (fetched_name root included) d (lists_inside names lists) p omitted) (rest_walk read files root file d lists names rest reached omitted) v (h omitted))

pub include-goes : (read : Reader) (files : Files) (root file : Name) (d depth : ℕ) (lists : List (List Name)) (included : Name) (names : Option (List (Name × ℕ))) (start : ℕ) (rest : List Item) (p : Progress) (reached : List Name) (v : Walked)
    → depth ≡ suc d
    → GoesOn (file_outcomes read files root (fetched_name root included) d (lists_inside names lists) p) (λ _. Ok v) → absent_in names v.reached ≡ None
    → GoesOn (items_outcomes read files root file depth lists (include included names start ∷ rest) p reached)
    (items_outcomes read files root file depth lists rest v.progress (reached ++ past_list names v.reached))
include-goes read files root file d depth lists included names start rest p reached v m h k =
    subst (λ n. GoesOn (items_outcomes read files root file n lists (include included names start ∷ rest) p reached)
    (items_outcomes read files root file n lists rest v.progress (reached ++ past_list names v.reached))) (sym m)
    (goes-goes (items_outcomes read files root file (suc d) lists (include included names start ∷ rest) p reached)
    (λ omitted. rest_walk read files root file d lists names rest reached omitted v)
    (items_outcomes read files root file (suc d) lists rest v.progress (reached ++ past_list names v.reached))
    (include-walked read files root file d lists included names start rest p reached v h)
    (λ omitted. inr (ap (λ o. unless_absent file o (items_walk (Some (file_walk read (over omitted files) root d)) root file lists rest (walked v.progress (reached ++ past_list names v.reached)))) k)))

pub include-ends : (read : Reader) (files : Files) (root file : Name) (d depth : ℕ) (lists : List (List Name)) (included : Name) (names : Option (List (Name × ℕ))) (start : ℕ) (rest : List Item) (p : Progress) (reached : List Name)
    → depth ≡ suc d → (fault : BuildFault) → EndsIn (file_outcomes read files root (fetched_name root included) d (lists_inside names lists) p) fault
    → EndsIn (items_outcomes read files root file depth lists (include included names start ∷ rest) p reached) fault
include-ends read files root file d depth lists included names start rest p reached m fault h =
    subst (λ n. EndsIn (items_outcomes read files root file n lists (include included names start ∷ rest) p reached) fault) (sym m)
    (goes-ends (items_outcomes read files root file (suc d) lists (include included names start ∷ rest) p reached)
    (λ omitted. go_on (file_outcomes read files root (fetched_name root included) d (lists_inside names lists) p omitted) (rest_walk read files root file d lists names rest reached omitted))
    (include-opens read files root file d lists included names start rest p reached) fault
    (go_on-ends (file_outcomes read files root (fetched_name root included) d (lists_inside names lists) p) (rest_walk read files root file d lists names rest reached) fault h))

pub include-absent : (read : Reader) (files : Files) (root file : Name) (d depth : ℕ) (lists : List (List Name)) (included : Name) (names : Option (List (Name × ℕ))) (start : ℕ) (rest : List Item) (p : Progress) (reached : List Name) (v : Walked)
    → depth ≡ suc d → GoesOn (file_outcomes read files root (fetched_name root included) d (lists_inside names lists) p) (λ _. Ok v)
    → (fault : BuildFault) → is_inside fault ≡ true → IfSome (the_refusal fault) (λ r. (next : Result Walked Refusal) → unless_absent file (absent_in names v.reached) next ≡ Err r)
    → EndsIn (items_outcomes read files root file depth lists (include included names start ∷ rest) p reached) fault
include-absent read files root file d depth lists included names start rest p reached v m h fault i k =
    subst (λ n. EndsIn (items_outcomes read files root file n lists (include included names start ∷ rest) p reached) fault) (sym m)
    (goes-ends (items_outcomes read files root file (suc d) lists (include included names start ∷ rest) p reached)
    (λ omitted. rest_walk read files root file d lists names rest reached omitted v)
    (include-walked read files root file d lists included names start rest p reached v h) fault
    (refused-ends (λ omitted. rest_walk read files root file d lists names rest reached omitted v) fault i
    (if-some (the_refusal fault) (λ r e. e (items_walk (Some (file_walk read files root d)) root file lists rest (walked v.progress (reached ++ past_list names v.reached)))) k)))
