-- The reading of a file in the walk, also where a file is left out.
use Rattle.std.proofs.Common.{◌≡◌, ◌⊎◌, inl, inr, ℕ, ◌+◌, ◌-◌, ◌<◌, ◌≤◌, List, [], ◌∷◌, length, Bool, true, false, Option, None, Some, IsSomeAnd, Err, if◌then◌else◌, refl, sym, ◌∙◌, ap, subst, arith, lt-ltb, ltb-true, nat_lt}
use Rattle.std.specs.Prelude.{map, not, reverse}
use Rattle.std.specs.Str.{bytes_eq}
use Rattle.std.proofs.lemmas.List.{reverse-reverse}
use Rattle.std.proofs.lemmas.Slice.Eq.{bytes_eq-Decides}
use Rattle.cop_base.specs.Outside.{Files, file_in}
use Rattle.tptp_reader.specs.declared.item.Item as program
use Rattle.tptp_reader.specs.ItemView.{the_item}
use Rattle.tptp_reader.specs.Sources.{Name, Item}
use Rattle.tptp_reader.specs.Reading.{reads, IsReading}
use Rattle.problem_build.specs.declared.fault.BuildFault.{BuildFault}
use Rattle.problem_build.specs.declared.fault.BuildFault.TheVariants.{Missing, Failed, InputTooLarge, NestingTooDeep, FormulaTooLarge, TooManySymbols, Bad, NoMemory}
use Rattle.problem_build.specs.Building.{IsExactReader, without}
use Rattle.problem_build.specs.Outside.{IsFailed, IsMissing}
use Rattle.problem_build.specs.Refusals.{missing, input_too_large}
use Rattle.problem_build.specs.Walk.{FileWalk, Progress, Reader, bytes_walk, items_walk, outcome_walk, walked}
use Rattle.problem_build.specs.Walking.{EndsIn, GoesOn, IsGone, Outcomes, deeper, file_outcomes, items_outcomes, over, pending_items}
use Rattle.problem_build.proofs.OneProblem.{read-is}

omitted-file : (files : Files) (name : Name) → file_in (without name files) name ≡ None
omitted-file [] name = refl
omitted-file (f ∷ fs) name = by (bytes_eq f.0 name) refl (omitted-file fs name)
  where
    by : (b : Bool) → bytes_eq f.0 name ≡ b → file_in (without name fs) name ≡ None → file_in (if not b then f ∷ without name fs else without name fs) name ≡ None
    by true e h = h
    by false e h = ap (λ (b : Bool). if b then Some f.1 else file_in (without name fs) name) e ∙ h

other-file : (files : Files) (n name : Name) → bytes_eq n name ≡ false → file_in (without n files) name ≡ file_in files name
other-file [] n name d = refl
other-file (f ∷ fs) n name d = by (bytes_eq f.0 n) refl (other-file fs n name d)
  where
    by : (b : Bool) → bytes_eq f.0 n ≡ b → file_in (without n fs) name ≡ file_in fs name → file_in (if not b then f ∷ without n fs else without n fs) name ≡ file_in (f ∷ fs) name
    by true e h = h ∙ sym (ap (λ (b : Bool). if b then Some f.1 else file_in fs name) (ap (λ x. bytes_eq x name) ((bytes_eq-Decides f.0 n).0 e) ∙ d))
    by false e h = ap (λ o. if bytes_eq f.0 name then Some f.1 else o) h

file-over : (omitted : Option Name) (files : Files) (name : Name) → ((omitted ≡ Some name) × (file_in (over omitted files) name ≡ None)) ⊎ (file_in (over omitted files) name ≡ file_in files name)
file-over None files name = inr refl
file-over (Some n) files name = by (bytes_eq n name) refl
  where
    by : (b : Bool) → bytes_eq n name ≡ b → ((Some n ≡ Some name) × (file_in (without n files) name ≡ None)) ⊎ (file_in (without n files) name ≡ file_in files name)
    by true e = let s : n ≡ name = (bytes_eq-Decides n name).0 e in inl (ap Some s, ap (λ m. file_in (without m files) name) s ∙ omitted-file files name)
    by false e = inr (other-file files n name e)

-- the walk over a file, unless the file is left out
opened : (read : Reader) (files : Files) (root file : Name) (depth : ℕ) (lists : List (List Name)) (p : Progress) (to : Outcomes)
    → ((omitted : Option Name) → bytes_walk read (deeper read (over omitted files) root depth) root file lists p (file_in files file) ≡ to omitted)
    → GoesOn (file_outcomes read files root file depth lists p) to
opened read files root file depth lists p to h omitted = by (file-over omitted files file)
  where
    by : ((omitted ≡ Some file) × (file_in (over omitted files) file ≡ None)) ⊎ (file_in (over omitted files) file ≡ file_in files file)
        → IsGone omitted (file_outcomes read files root file depth lists p omitted) ⊎ (file_outcomes read files root file depth lists p omitted ≡ to omitted)
    by (inl q) = inl (subst (λ g. IsGone g (file_outcomes read files root file depth lists p omitted)) (sym q.0) (ap (bytes_walk read (deeper read (over omitted files) root depth) root file lists p) q.1))
    by (inr e) = inr (ap (bytes_walk read (deeper read (over omitted files) root depth) root file lists p) e ∙ h omitted)

-- ---- files that are not there

pub missing-ends : (read : Reader) (files : Files) (root file : Name) (depth : ℕ) (lists : List (List Name)) (p : Progress) → file_in files file ≡ None
    → (fault : BuildFault) → IsMissing fault file → EndsIn (file_outcomes read files root file depth lists p) fault
missing-ends read files root file depth lists p e (Missing n) h = ap (bytes_walk read (deeper read files root depth) root file lists p) e ∙ ap (λ m. Err (missing m)) (sym h)
missing-ends read files root file depth lists p e (Failed n) h = absurd h
missing-ends read files root file depth lists p e InputTooLarge h = absurd h
missing-ends read files root file depth lists p e NestingTooDeep h = absurd h
missing-ends read files root file depth lists p e FormulaTooLarge h = absurd h
missing-ends read files root file depth lists p e TooManySymbols h = absurd h
missing-ends read files root file depth lists p e (Bad f o c) h = absurd h
missing-ends read files root file depth lists p e NoMemory h = tt

pub failed-ends : (read : Reader) (files : Files) (root file : Name) (depth : ℕ) (lists : List (List Name)) (p : Progress)
    → (fault : BuildFault) → IsFailed fault file → EndsIn (file_outcomes read files root file depth lists p) fault
failed-ends read files root file depth lists p (Missing n) h = absurd h
failed-ends read files root file depth lists p (Failed n) h =
    ap (bytes_walk read (deeper read (without n files) root depth) root file lists p) (ap (λ m. file_in (without m files) file) h ∙ omitted-file files file) ∙ ap (λ m. Err (missing m)) (sym h)
failed-ends read files root file depth lists p InputTooLarge h = absurd h
failed-ends read files root file depth lists p NestingTooDeep h = absurd h
failed-ends read files root file depth lists p FormulaTooLarge h = absurd h
failed-ends read files root file depth lists p TooManySymbols h = absurd h
failed-ends read files root file depth lists p (Bad f o c) h = absurd h
failed-ends read files root file depth lists p NoMemory h = tt

-- ---- the limit of bytes

abbrev pub with_bytes : Progress → ℕ → Progress
with_bytes p n = record { bytes = p.bytes + n; passed = p.passed }

within-limit : (m n : ℕ) → n ≤ m → nat_lt m n ≡ false
within-limit m n h = by (nat_lt m n) refl
  where
    by : (b : Bool) → nat_lt m n ≡ b → nat_lt m n ≡ false
    by true e = let k : m < n = ltb-true m n e in absurd (omega (arith, k, h))
    by false e = e

pub large-ends : (read : Reader) (files : Files) (root file : Name) (depth : ℕ) (lists : List (List Name)) (p : Progress) → IsSomeAnd (file_in files file) (λ bytes. 16777216 - p.bytes < length bytes)
    → file_outcomes read files root file depth lists p None ≡ Err input_too_large
large-ends read files root file depth lists p h = by (file_in files file) refl h
  where
    by : (o : Option (List ℕ)) → file_in files file ≡ o → IsSomeAnd o (λ bytes. 16777216 - p.bytes < length bytes) → file_outcomes read files root file depth lists p None ≡ Err input_too_large
    by None e k = absurd k
    by (Some bytes) e k =
        let over : 16777216 < p.bytes + length bytes = omega (arith, k) in
        ap (bytes_walk read (deeper read files root depth) root file lists p) e
        ∙ ap (λ (b : Bool). if b then Err input_too_large else outcome_walk (deeper read files root depth) root file lists (with_bytes p (length bytes)) (read bytes)) (lt-ltb 16777216 (p.bytes + length bytes) over)

-- ---- files that are read

text-walk : (read : Reader) (deep : Option FileWalk) (root file : Name) (lists : List (List Name)) (p : Progress) (found : Option (List ℕ)) (bytes : List ℕ) → found ≡ Some bytes → p.bytes + length bytes ≤ 16777216
    → bytes_walk read deep root file lists p found ≡ outcome_walk deep root file lists (with_bytes p (length bytes)) (read bytes)
text-walk read deep root file lists p found bytes e w =
    ap (bytes_walk read deep root file lists p) e
    ∙ ap (λ (b : Bool). if b then Err input_too_large else outcome_walk deep root file lists (with_bytes p (length bytes)) (read bytes)) (within-limit 16777216 (p.bytes + length bytes) w)

pub read-goes : (modal : Bool) (read : Reader) → IsExactReader modal read → (files : Files) (root file : Name) (depth : ℕ) (lists : List (List Name)) (p q : Progress) (bytes : List ℕ) (items : List Item)
    → file_in files file ≡ Some bytes → p.bytes + length bytes ≤ 16777216 → q ≡ with_bytes p (length bytes) → IsReading modal bytes (reads items)
    → GoesOn (file_outcomes read files root file depth lists p) (items_outcomes read files root file depth lists items q [])
read-goes modal read x files root file depth lists p q bytes items e w m h =
    opened read files root file depth lists p (items_outcomes read files root file depth lists items q [])
    (λ omitted. text-walk read (deeper read (over omitted files) root depth) root file lists p (file_in files file) bytes e w
    ∙ ap (outcome_walk (deeper read (over omitted files) root depth) root file lists (with_bytes p (length bytes))) (read-is modal read x bytes (reads items) h)
    ∙ ap (λ r. items_walk (deeper read (over omitted files) root depth) root file lists items (walked r [])) (sym m))

-- the items are turned round twice
pub reversed-reading : (modal : Bool) (text bytes : List ℕ) (items : List Item) (made reversed : List program.Item) → IsReading modal text (reads items) → text ≡ bytes → map the_item made ≡ items → reversed ≡ reverse made
    → IsReading modal bytes (reads (pending_items reversed))
reversed-reading modal text bytes items made reversed h e f g =
    subst (λ is. IsReading modal bytes (reads is)) (sym (ap pending_items g ∙ ap (map the_item) (reverse-reverse made) ∙ f)) (subst (λ bs. IsReading modal bs (reads items)) e h)
