-- Labels and steps by their numbers: where labels stand in a table, and where it grows.
use Rattle.std.proofs.Common.{◌≡◌, ℕ, zero, suc, ◌+◌, ◌-◌, ◌<◌, ◌≤◌, Bool, List, [], ◌∷◌, ◌++◌, length, get_or, map, IsTrue, Option, refl, sym, ◌∙◌, ap, subst, arith, ◌⊎◌, inl, inr}
use Rattle.std.proofs.lemmas.Bool.{and_parts, cases_lt}
use Rattle.std.proofs.lemmas.Bool.Decides.{nat_tests}
use Rattle.std.proofs.lemmas.List.{length-append, length-map, get_or-map, get_or_append_left, get_or_push}
use Rattle.std.specs.List.{list_all}
use Rattle.calculus.specs.Derivations.{Label, to}
use Rattle.calculus.specs.Versions.{NumberedDerivation, NumberedStep, is_among, numbered, numbered_home_is_written, numbering, stated, stated_eigen, stated_spare}
use Rattle.calculus.specs.VersionJudgement.{step_line_in}
use Rattle.calculus.specs.declared.version.Version.{Version}
use Rattle.calculus.specs.declared.version.Version.TheVariants.{One, Two}
use Rattle.derivation_text.specs.Listed.{are_listed, has_home_among, may_have_home_among}
use Rattle.derivation_text.specs.NumbersView.{the_numbered_eigen, the_numbered_spare, the_numbered_step}
use Rattle.derivation_text.specs.declared.numbers.NumberedStep as step
use Rattle.label_table.specs.Longer.{IsLonger}
use Rattle.label_table.proofs.TableLaws.{longer-at, longer-size}
use Rattle.derivation_check.specs.ArgumentView.{AreFirstPlaces, ArePlaces, IsArgumentWithin, the_label_argument}
use Rattle.derivation_check.specs.declared.argument.LabelArgument.{LabelArgument}
use Rattle.derivation_check.specs.declared.argument.LabelArgument.TheVariants.{None, To, New}

-- an argument is that of the shorter table
pub argument-longer : (labels more : List Label) (m : LabelArgument) → IsLonger labels more → IsArgumentWithin labels m → the_label_argument more m ≡ the_label_argument labels m
argument-longer labels more None long h = refl
argument-longer labels more (To k) long h = ap to (longer-at labels more k [] long h)
argument-longer labels more (New n) long h = refl

pub places-longer : (n : ℕ) (labels table more : List Label) (places : List ℕ) → IsLonger table more → AreFirstPlaces n labels table places → AreFirstPlaces n labels more places
places-longer n labels table more places long h = record {
  count = h.count;
  within = λ i lt. let size = longer-size table more long in let in_table = h.within i lt in omega (arith, size, in_table);
  same = λ i lt. longer-at table more (get_or places i 0) [] long (h.within i lt) ∙ h.same i lt;
}

pub no-places : (labels table : List Label) (places : List ℕ) → places ≡ [] → AreFirstPlaces 0 labels table places
no-places labels table places none = record {
  count = ap length none;
  within = λ i lt. absurd (omega (arith, lt));
  same = λ i lt. absurd (omega (arith, lt));
}

-- the place of one label more
pub place-put : (n p : ℕ) (labels table more : List Label) (places after : List ℕ) → IsLonger table more → AreFirstPlaces n labels table places → p < length more → get_or more p [] ≡ get_or labels n [] → after ≡ places ++ p ∷ [] → AreFirstPlaces (n + 1) labels more after
place-put n p labels table more places after long h lt same put =
    let old = places-longer n labels table more places long h in
    let count = old.count in
    let size = ap length put ∙ length-append places (p ∷ []) in
    record {
      count = omega (arith, count, size);
      within = λ i less. within i less (cases_lt i n);
      same = λ i less. there i less (cases_lt i n);
    }
  where
    kept : (i : ℕ) → i < n → get_or after i 0 ≡ get_or places i 0
    kept i lt = let count = h.count in ap (λ l. get_or l i 0) put ∙ get_or_append_left places (p ∷ []) 0 i (omega (arith, lt, count))

    new : (i : ℕ) → i ≡ n → get_or after i 0 ≡ p
    new i e = let count = h.count in ap (λ l. get_or l i 0) put ∙ get_or_push places p 0 i (omega (arith, e, count))

    within : (i : ℕ) → i < n + 1 → (i < n) ⊎ (n ≤ i) → get_or after i 0 < length more
    within i less (inl lt) = let place = kept i lt in let size = longer-size table more long in let old = h.within i lt in omega (arith, place, size, old)
    within i less (inr le) = let place = new i (omega (arith, less, le)) in omega (arith, place, lt)

    there : (i : ℕ) → i < n + 1 → (i < n) ⊎ (n ≤ i) → get_or more (get_or after i 0) [] ≡ get_or labels i []
    there i less (inl lt) = ap (λ k. get_or more k []) (kept i lt) ∙ longer-at table more (get_or places i 0) [] long (h.within i lt) ∙ h.same i lt
    there i less (inr le) =
        let e : i ≡ n = omega (arith, less, le) in
        ap (λ k. get_or more k []) (new i e) ∙ same ∙ ap (λ k. get_or labels k []) (sym e)

-- the item of a number
index-read : {A : Type 0} (xs : List A) (k : ℕ) (d : A) → numbered xs (suc k) d ≡ get_or xs k d
index-read xs k d = refl

pub number-read : {A : Type 0} (xs : List A) (n i : ℕ) (d : A) → n ≡ i + 1 → numbered xs n d ≡ get_or xs i d
number-read xs n i d e = let next : n ≡ suc i = omega (arith, e) in ap (λ k. numbered xs k d) next ∙ index-read xs i d

pub among-parts : (n k : ℕ) → IsTrue (is_among n k) → (1 ≤ k) × (k ≤ n)
among-parts n k h = grind (arith, nat_tests)

-- a label by its number and by its place
pub stated-at : (labels table : List Label) (places : List ℕ) (k p : ℕ) → ArePlaces labels table places → IsTrue (is_among (length places) k) → p ≡ get_or places (k - 1) 0 → (p < length table) × (get_or table p [] ≡ numbered labels k [])
stated-at labels table places k p h among read =
    let parts = among-parts (length places) k among in
    let some = parts.0 in
    let most = parts.1 in
    let count = h.count in
    let lt : k - 1 < length labels = omega (arith, some, most, count) in
    let within = h.within (k - 1) lt in
    (omega (arith, read, within), ap (λ i. get_or table i []) read ∙ h.same (k - 1) lt ∙ sym (number-read labels k (k - 1) [] (omega (arith, some))))

-- what holds of all items holds of each
pub all-read : {A : Type 0} (W : A → Bool) (xs : List A) (i : ℕ) (d : A) → IsTrue (list_all W xs) → i < length xs → IsTrue (W (get_or xs i d))
all-read W [] i d h lt = absurd (omega (arith, lt))
all-read W (x ∷ xs) zero d h lt = (and_parts (W x) (list_all W xs) h).0
all-read W (x ∷ xs) (suc i) d h lt = all-read W xs i d (and_parts (W x) (list_all W xs) h).1 (omega (arith, lt))

-- ---- the line of the first step

pub line-one : (x : NumberedDerivation) (v : Version) (n e s : ℕ) → v ≡ One → e ≡ length x.eigens → s ≡ length x.spares → n ≡ 5 + e + s → n ≡ step_line_in v (stated x)
line-one x v n e s one eigens spares sum =
    let stated_eigens = length-map x.eigens (stated_eigen x.labels) in
    let stated_spares = length-map x.spares (stated_spare x.labels) in
    let told : n ≡ step_line_in One (stated x) = omega (arith, eigens, spares, sum, stated_eigens, stated_spares) in
    told ∙ ap (λ w. step_line_in w (stated x)) (sym one)

pub line-two : (x : NumberedDerivation) (v : Version) (n e s l t : ℕ) → x ≡ numbering (stated x) → v ≡ Two → e ≡ length x.eigens → s ≡ length x.spares → l ≡ length x.labels → t ≡ length x.terms → n ≡ 5 + e + s + l + t → n ≡ step_line_in v (stated x)
line-two x v n e s l t numbers two eigens spares labels terms sum =
    let stated_eigens = length-map x.eigens (stated_eigen x.labels) in
    let stated_spares = length-map x.spares (stated_spare x.labels) in
    let all_labels = ap (λ (y : NumberedDerivation). length y.labels) numbers in
    let all_terms = ap (λ (y : NumberedDerivation). length y.terms) numbers in
    let told : n ≡ step_line_in Two (stated x) = omega (arith, eigens, spares, labels, terms, sum, stated_eigens, stated_spares, all_labels, all_terms) in
    told ∙ ap (λ w. step_line_in w (stated x)) (sym two)

-- ---- names

-- the homes of listed names have numbers of labels
pub eigen-among : (n : ℕ) (names : List (ℕ × ℕ)) (i : ℕ) (d : ℕ × ℕ) → IsTrue (list_all (has_home_among n) (map the_numbered_eigen names)) → i < length names → IsTrue (is_among n (get_or names i d).1)
eigen-among n names i d h lt =
    let size = length-map names the_numbered_eigen in
    let there = all-read (has_home_among n) (map the_numbered_eigen names) i (the_numbered_eigen d) h (omega (arith, size, lt)) in
    subst (λ y. IsTrue (has_home_among n y)) (get_or-map the_numbered_eigen names i d (the_numbered_eigen d) lt) there

pub spare-among : (n : ℕ) (names : List (ℕ × Option ℕ)) (i : ℕ) (d : ℕ × Option ℕ) → IsTrue (list_all (may_have_home_among n) (map the_numbered_spare names)) → i < length names → IsTrue (numbered_home_is_written n (get_or names i d).1)
spare-among n names i d h lt =
    let size = length-map names the_numbered_spare in
    let there = all-read (may_have_home_among n) (map the_numbered_spare names) i (the_numbered_spare d) h (omega (arith, size, lt)) in
    subst (λ y. IsTrue (may_have_home_among n y)) (get_or-map the_numbered_spare names i d (the_numbered_spare d) lt) there

-- the numbers of each step are listed
pub step-listed : (n m : ℕ) (items : List step.NumberedStep) (i : ℕ) (d : step.NumberedStep) (steps : List NumberedStep) → map the_numbered_step items ≡ steps → IsTrue (list_all (are_listed n m) steps) → i < length items → IsTrue (are_listed n m (the_numbered_step (get_or items i d)))
step-listed n m items i d steps view h lt =
    let size = length-map items the_numbered_step in
    let there = all-read (are_listed n m) (map the_numbered_step items) i (the_numbered_step d) (subst (λ xs. IsTrue (list_all (are_listed n m) xs)) (sym view) h) (omega (arith, size, lt)) in
    subst (λ y. IsTrue (are_listed n m y)) (get_or-map the_numbered_step items i d (the_numbered_step d) lt) there
