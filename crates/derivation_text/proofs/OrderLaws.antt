-- Numbers that come in the order of first occurrence are those by which the derivation that they state is numbered.
use Rattle.std.proofs.Common.{if◌then◌else◌, ◌≡◌, ℕ, zero, suc, ◌<◌, ◌≤◌, List, [], ◌∷◌, ◌++◌, length, take, get_or, map, Bool, true, false, ◌||◌, ◌==◌, IsTrue, Option, Some, None, nat_le, refl, sym, ◌∙◌, ap, subst, append-nil, append_assoc, flat_map, add-one, arith, leb-true, eqb-true}
use Rattle.std.specs.List.{list_all}
use Rattle.std.proofs.lemmas.Bool.{and_parts, true≢false, or_right}
use Rattle.std.proofs.lemmas.List.{get_or-take, length-take-le, map-append, take_more}
use Rattle.std.proofs.lemmas.List.Folds.{list_all-append}
use Rattle.plain_laws.proofs.Places.{take-all}
use Rattle.calculus.proofs.EqualityLaws.{Tells, term_eq-tells}
use Rattle.calculus.specs.Equality.{term_eq}
use Rattle.calculus.specs.Syntax.{Term, spare}
use Rattle.calculus.specs.Derivations.{Label, EigenName, SpareName}
use Rattle.calculus.specs.Versions.{NumberedDerivation, NumberedEigen, NumberedSpare, NumberedModal, no_numbered_modal, to_number, by_character, NumberedTerm, no_numbered_term, by_number, by_eigen, NumberedStep, numbered_use, numbered_axiom, home_labels, home_number, is_among, labels_of, number_in, numbered, numbered_arg, numbered_by, numbered_eigen, numbered_modal, numbered_spare, numbered_step, numbering, once, place_in, same_label, stated, stated_eigen, stated_home, stated_modal, stated_spare, stated_step, stated_term, step_labels, step_terms}
use Rattle.derivation_text.proofs.NumberingLaws.{same_label-tells}
use Rattle.derivation_text.proofs.OnceLaws.{once-end}
use Rattle.derivation_text.specs.Entering.{entered, has}
use Rattle.derivation_text.specs.Listing.{AreApart}
use Rattle.derivation_text.specs.InOrder.{arg_numbers, greatest_in_order, home_numbers, label_numbers, modal_numbers, step_label_numbers, step_term_numbers, term_numbers}

-- ---- the place of an item

pub place-within : {A : Type 0} (same : A → A → Bool) (xs : List A) (x : A) → IsTrue (has same xs x) → place_in same xs x < length xs
place-within same [] x h = absurd (true≢false (sym h))
place-within {A} same (y ∷ ys) x h = by (same y x) refl (place-within same ys x)
  where
    by : (b : Bool) → same y x ≡ b → (IsTrue (has same ys x) → place_in same ys x < length ys) → place_in same (y ∷ ys) x < suc (length ys)
    by true e rest = let z : place_in same (y ∷ ys) x ≡ 0 = ap (λ b. if b then 0 else suc (place_in same ys x)) e in omega arith
    by false e rest =
        let z : place_in same (y ∷ ys) x ≡ suc (place_in same ys x) = ap (λ b. if b then 0 else suc (place_in same ys x)) e in
        let k = rest (ap (λ b. b || has same ys x) (sym e) ∙ h) in
        omega arith

place-found : {A : Type 0} (same : A → A → Bool) → Tells same → (xs : List A) (x d : A) → IsTrue (has same xs x) → get_or xs (place_in same xs x) d ≡ x
place-found same tells [] x d h = absurd (true≢false (sym h))
place-found {A} same tells (y ∷ ys) x d h = by (same y x) refl (place-found same tells ys x d)
  where
    by : (b : Bool) → same y x ≡ b → (IsTrue (has same ys x) → get_or ys (place_in same ys x) d ≡ x) → get_or (y ∷ ys) (place_in same (y ∷ ys) x) d ≡ x
    by true e rest = ap (λ c. get_or (y ∷ ys) (if c then 0 else suc (place_in same ys x)) d) e ∙ (tells y x).0 e
    by false e rest = ap (λ c. get_or (y ∷ ys) (if c then 0 else suc (place_in same ys x)) d) e ∙ rest (ap (λ b. b || has same ys x) (sym e) ∙ h)

has-at : {A : Type 0} (same : A → A → Bool) → Tells same → (xs : List A) (i : ℕ) (d : A) → i < length xs → IsTrue (has same xs (get_or xs i d))
has-at same tells [] i d h = absurd (omega arith)
has-at same tells (y ∷ ys) zero d h = ap (λ b. b || has same ys y) ((tells y y).1 refl)
has-at same tells (y ∷ ys) (suc i) d h = or_right (same y (get_or ys i d)) (has same ys (get_or ys i d)) (has-at same tells ys i d (omega arith))

-- an item is found at its own number
number-at : {A : Type 0} (same : A → A → Bool) → Tells same → (xs : List A) (d : A) → AreApart xs d → (k : ℕ) → IsTrue (is_among (length xs) k) → number_in same xs (numbered xs k d) ≡ k
number-at same tells xs d apart zero h = absurd (true≢false (sym h))
number-at same tells xs d apart (suc i) h =
    let w : suc i ≤ length xs = leb-true (suc i) (length xs) (and_parts (nat_le 1 (suc i)) (nat_le (suc i) (length xs)) h).1 in
    let there = has-at same tells xs i d (omega arith) in
    ap suc (apart (place_in same xs (get_or xs i d)) i (place-within same xs (get_or xs i d) there) (omega arith) (place-found same tells xs (get_or xs i d) d there))

-- ---- items that are entered one after the other

abbrev entering : {A : Type 0} → (A → A → Bool) → List A → List A → List A
entering same xs [] = xs
entering same xs (y ∷ ys) = entering same (entered same xs y) ys

once-entering : {A : Type 0} (same : A → A → Bool) → Tells same → (xs ys : List A) → once same (xs ++ ys) ≡ entering same (once same xs) ys
once-entering same tells xs [] = ap (once same) (append-nil xs)
once-entering same tells xs (y ∷ ys) = ap (once same) (sym (append_assoc xs (y ∷ []) ys)) ∙ once-entering same tells (xs ++ y ∷ []) ys ∙ ap (λ l. entering same l ys) (once-end same tells xs y)

-- the first s items have the item of a place before
among-first : {A : Type 0} (same : A → A → Bool) → Tells same → (xs : List A) (d : A) (s i : ℕ) → s ≤ length xs → i < s → has same (take s xs) (get_or xs i d) ≡ true
among-first same tells xs d s i h k =
    ap (has same (take s xs)) (sym (get_or-take s xs i d k)) ∙ has-at same tells (take s xs) i d (subst (λ n. i < n) (sym (length-take-le s xs h)) k)

-- and not the next one
next-new : {A : Type 0} (same : A → A → Bool) → Tells same → (xs : List A) (d : A) → AreApart xs d → (s : ℕ) → s < length xs → has same (take s xs) (get_or xs s d) ≡ false
next-new {A} same tells xs d apart s h = by (has same (take s xs) (get_or xs s d)) refl
  where
    by : (b : Bool) → has same (take s xs) (get_or xs s d) ≡ b → b ≡ false
    by true e =
        let p = place_in same (take s xs) (get_or xs s d) in
        let size : length (take s xs) ≡ s = length-take-le s xs (omega arith) in
        let w : place_in same (take s xs) (get_or xs s d) < length (take s xs) = place-within same (take s xs) (get_or xs s d) e in
        let f = sym (get_or-take s xs p d (omega arith)) ∙ place-found same tells (take s xs) (get_or xs s d) d e in
        let same_place : p ≡ s = apart p s (omega arith) h f in
        absurd (omega arith)
    by false e = refl

ordered : {A : Type 0} (same : A → A → Bool) → Tells same → (xs : List A) (d : A) → AreApart xs d → (ks : List ℕ) (s e : ℕ) → s ≤ length xs → IsTrue (list_all (is_among (length xs)) ks) → greatest_in_order s ks ≡ Some e
    → entering same (take s xs) (map (λ k. numbered xs k d) ks) ≡ take e xs
ordered same tells xs d apart [] s e h k g = ap (λ n. take n xs) (some-same s e g)
  where
    some-same : (m n : ℕ) → Some m ≡ Some n → m ≡ n
    some-same m n g = cc g
ordered {A} same tells xs d apart (zero ∷ ks) s e h k g = absurd (true≢false (sym (and_parts (is_among (length xs) 0) (list_all (is_among (length xs)) ks) k).0))
ordered {A} same tells xs d apart (suc i ∷ ks) s e h k g = by (nat_le (suc i) s) refl (suc i == suc s) refl (ordered same tells xs d apart ks)
  where
    p : IsTrue (is_among (length xs) (suc i)) × IsTrue (list_all (is_among (length xs)) ks)
    p = and_parts (is_among (length xs) (suc i)) (list_all (is_among (length xs)) ks) k

    within : suc i ≤ length xs
    within = leb-true (suc i) (length xs) (and_parts (nat_le 1 (suc i)) (nat_le (suc i) (length xs)) p.0).1

    none : {n : ℕ} → None ≡ Some n → ⊥
    none q = cc q

    by : (b : Bool) → nat_le (suc i) s ≡ b → (c : Bool) → (suc i == suc s) ≡ c
        → ((s e : ℕ) → s ≤ length xs → IsTrue (list_all (is_among (length xs)) ks) → greatest_in_order s ks ≡ Some e → entering same (take s xs) (map (λ k. numbered xs k d) ks) ≡ take e xs)
        → entering same (entered same (take s xs) (get_or xs i d)) (map (λ k. numbered xs k d) ks) ≡ take e xs
    by true q c r rest =
        let lt = leb-true (suc i) s q in
        ap (λ b. entering same (if b then take s xs else take s xs ++ get_or xs i d ∷ []) (map (λ k. numbered xs k d) ks)) (among-first same tells xs d s i h (omega arith))
        ∙ rest s e h p.1 (ap (λ b. if b then greatest_in_order s ks else (if suc i == suc s then greatest_in_order (suc s) ks else None)) (sym q) ∙ g)
    by false q true r rest =
        let same_number : suc i ≡ suc s = eqb-true (suc i) (suc s) r in
        let at : i ≡ s = omega (arith, same_number) in
        let w : suc s ≤ length xs = subst (λ n. n ≤ length xs) same_number within in
        let told = ap (λ b. if b then greatest_in_order s ks else (if suc i == suc s then greatest_in_order (suc s) ks else None)) (sym q) in
        let go = ap (λ b. if b then greatest_in_order (suc s) ks else None) (sym r) in
        (λ j. entering same (entered same (take s xs) (get_or xs (at j) d)) (map (λ k. numbered xs k d) ks))
        ∙ ap (λ b. entering same (if b then take s xs else take s xs ++ get_or xs s d ∷ []) (map (λ k. numbered xs k d) ks)) (next-new same tells xs d apart s (omega arith))
        ∙ ap (λ l. entering same l (map (λ k. numbered xs k d) ks)) (let t : take (suc s) xs ≡ take s xs ++ get_or xs s d ∷ [] = rw (← add-one) (take_more xs s d (omega arith)) in sym t)
        ∙ rest (suc s) e w p.1 (go ∙ told ∙ g)
    by false q false r rest =
        absurd (none (sym (ap (λ b. if b then greatest_in_order s ks else (if suc i == suc s then greatest_in_order (suc s) ks else None)) q ∙ ap (λ b. if b then greatest_in_order (suc s) ks else None) r) ∙ g))

-- the items of numbers that come in order, once, are the list
pub once-ordered : {A : Type 0} (same : A → A → Bool) → Tells same → (xs : List A) (d : A) → AreApart xs d → (ks : List ℕ) → IsTrue (list_all (is_among (length xs)) ks) → greatest_in_order 0 ks ≡ Some (length xs) → once same (map (λ k. numbered xs k d) ks) ≡ xs
once-ordered same tells xs d apart ks h g = once-entering same tells [] (map (λ k. numbered xs k d) ks) ∙ ordered same tells xs d apart ks 0 (length xs) (omega arith) h g ∙ take-all xs

-- ---- the labels and terms of the derivation that is stated

abbrev label_at : List Label → ℕ → Label
label_at L k = numbered L k []

abbrev term_at : List Term → ℕ → Term
term_at T k = numbered T k (spare 0)

eigen-labels : (L : List Label) (es : List NumberedEigen) → map (λ (x : EigenName). x.home) (map (stated_eigen L) es) ≡ map (label_at L) (map (λ (y : NumberedEigen). y.home) es)
eigen-labels L [] = refl
eigen-labels L (e ∷ es) = ap (λ l. label_at L e.home ∷ l) (eigen-labels L es)

spare-labels : (L : List Label) (ss : List NumberedSpare) → flat_map (λ (x : SpareName). home_labels x.home) (map (stated_spare L) ss) ≡ map (label_at L) (flat_map (λ (y : NumberedSpare). home_numbers y.home) ss)
spare-labels L [] = refl
spare-labels L (s ∷ ss) = by s.home (spare-labels L ss)
  where
    by : (home : Option ℕ) → flat_map (λ (x : SpareName). home_labels x.home) (map (stated_spare L) ss) ≡ map (label_at L) (flat_map (λ (y : NumberedSpare). home_numbers y.home) ss)
        → home_labels (stated_home L home) ++ flat_map (λ (x : SpareName). home_labels x.home) (map (stated_spare L) ss) ≡ map (label_at L) (home_numbers home ++ flat_map (λ (y : NumberedSpare). home_numbers y.home) ss)
    by None e = e
    by (Some k) e = ap (λ l. label_at L k ∷ l) e

stated-labels : (L : List Label) (T : List Term) (xs : List NumberedStep) → flat_map step_labels (map (stated_step L T) xs) ≡ map (label_at L) (flat_map step_label_numbers xs)
stated-labels L T [] = refl
stated-labels L T (numbered_axiom n k ∷ xs) = stated-labels L T xs
stated-labels L T (numbered_use n no_numbered_modal t ∷ xs) = stated-labels L T xs
stated-labels L T (numbered_use n (to_number k) t ∷ xs) = ap (λ l. label_at L k ∷ l) (stated-labels L T xs)
stated-labels L T (numbered_use n (by_character k) t ∷ xs) = stated-labels L T xs

stated-terms : (L : List Label) (T : List Term) (xs : List NumberedStep) → flat_map step_terms (map (stated_step L T) xs) ≡ map (term_at T) (flat_map step_term_numbers xs)
stated-terms L T [] = refl
stated-terms L T (numbered_axiom n k ∷ xs) = stated-terms L T xs
stated-terms L T (numbered_use n m no_numbered_term ∷ xs) = stated-terms L T xs
stated-terms L T (numbered_use n m (by_number k) ∷ xs) = ap (λ l. term_at T k ∷ l) (stated-terms L T xs)
stated-terms L T (numbered_use n m (by_eigen k) ∷ xs) = stated-terms L T xs

labels-stated : (x : NumberedDerivation) → labels_of (stated x) ≡ map (label_at x.labels) (label_numbers x)
labels-stated x =
    let f = label_at x.labels in
    let es = map (λ (y : NumberedEigen). y.home) x.eigens in
    let ss = flat_map (λ (y : NumberedSpare). home_numbers y.home) x.spares in
    let xs = flat_map step_label_numbers x.steps in
    (λ i. (eigen-labels x.labels x.eigens i ++ spare-labels x.labels x.spares i) ++ stated-labels x.labels x.terms x.steps i)
    ∙ sym (map-append f (es ++ ss) xs ∙ ap (λ l. l ++ map f xs) (map-append f es ss))

-- ---- and their numbers

back-eigens : (L : List Label) → AreApart L [] → (es : List NumberedEigen) → IsTrue (list_all (is_among (length L)) (map (λ (y : NumberedEigen). y.home) es)) → map (numbered_eigen L) (map (stated_eigen L) es) ≡ es
back-eigens L apart [] h = refl
back-eigens L apart (e ∷ es) h =
    let p = and_parts (is_among (length L) e.home) (list_all (is_among (length L)) (map (λ (y : NumberedEigen). y.home) es)) h in
    λ i. record { number = e.number; home = number-at same_label same_label-tells L [] apart e.home p.0 i } ∷ back-eigens L apart es p.1 i

back-home : (L : List Label) → AreApart L [] → (home : Option ℕ) (rest : List ℕ) → IsTrue (list_all (is_among (length L)) (home_numbers home ++ rest)) → (home_number L (stated_home L home) ≡ home) × IsTrue (list_all (is_among (length L)) rest)
back-home L apart None rest h = (refl, h)
back-home L apart (Some k) rest h =
    let p = and_parts (is_among (length L) k) (list_all (is_among (length L)) rest) h in
    (ap Some (number-at same_label same_label-tells L [] apart k p.0), p.1)

back-spares : (L : List Label) → AreApart L [] → (ss : List NumberedSpare) → IsTrue (list_all (is_among (length L)) (flat_map (λ (y : NumberedSpare). home_numbers y.home) ss)) → map (numbered_spare L) (map (stated_spare L) ss) ≡ ss
back-spares L apart [] h = refl
back-spares L apart (s ∷ ss) h =
    let p = back-home L apart s.home (flat_map (λ (y : NumberedSpare). home_numbers y.home) ss) h in
    λ i. record { number = s.number; home = p.0 i } ∷ back-spares L apart ss p.1 i

back-modal : (L : List Label) → AreApart L [] → (m : NumberedModal) (rest : List ℕ) → IsTrue (list_all (is_among (length L)) (modal_numbers m ++ rest)) → (numbered_modal L (stated_modal L m) ≡ m) × IsTrue (list_all (is_among (length L)) rest)
back-modal L apart no_numbered_modal rest h = (refl, h)
back-modal L apart (by_character n) rest h = (refl, h)
back-modal L apart (to_number k) rest h =
    let p = and_parts (is_among (length L) k) (list_all (is_among (length L)) rest) h in
    (ap to_number (number-at same_label same_label-tells L [] apart k p.0), p.1)

back-arg : (T : List Term) → AreApart T (spare 0) → (t : NumberedTerm) (rest : List ℕ) → IsTrue (list_all (is_among (length T)) (arg_numbers t ++ rest)) → (numbered_arg T (stated_term T t) ≡ t) × IsTrue (list_all (is_among (length T)) rest)
back-arg T apart no_numbered_term rest h = (refl, h)
back-arg T apart (by_eigen n) rest h = (refl, h)
back-arg T apart (by_number k) rest h =
    let p = and_parts (is_among (length T) k) (list_all (is_among (length T)) rest) h in
    (ap by_number (number-at term_eq term_eq-tells T (spare 0) apart k p.0), p.1)

back-steps : (L : List Label) (T : List Term) → AreApart L [] → AreApart T (spare 0) → (xs : List NumberedStep) → IsTrue (list_all (is_among (length L)) (flat_map step_label_numbers xs)) → IsTrue (list_all (is_among (length T)) (flat_map step_term_numbers xs)) → map (numbered_step L T) (map (stated_step L T) xs) ≡ xs
back-steps L T a b [] h k = refl
back-steps L T a b (numbered_axiom n m ∷ xs) h k = ap (λ ys. numbered_axiom n m ∷ ys) (back-steps L T a b xs h k)
back-steps L T a b (numbered_use n m t ∷ xs) h k =
    let p = back-modal L a m (flat_map step_label_numbers xs) h in
    let q = back-arg T b t (flat_map step_term_numbers xs) k in
    λ i. numbered_use n (p.0 i) (q.0 i) ∷ back-steps L T a b xs p.1 q.1 i

-- labels and terms of which none comes twice, with all numbers in order, are numbered as the derivation that they state
pub in-order : (x : NumberedDerivation) → AreApart x.labels [] → AreApart x.terms (spare 0) → IsTrue (list_all (is_among (length x.labels)) (label_numbers x)) → IsTrue (list_all (is_among (length x.terms)) (term_numbers x))
    → greatest_in_order 0 (label_numbers x) ≡ Some (length x.labels) → greatest_in_order 0 (term_numbers x) ≡ Some (length x.terms) → numbering (stated x) ≡ x
in-order x a b h k g j =
    let L = x.labels in
    let T = x.terms in
    let es = map (λ (y : NumberedEigen). y.home) x.eigens in
    let ss = flat_map (λ (y : NumberedSpare). home_numbers y.home) x.spares in
    let xs = flat_map step_label_numbers x.steps in
    let p = and_parts (list_all (is_among (length L)) (es ++ ss)) (list_all (is_among (length L)) xs) (sym (list_all-append (is_among (length L)) (es ++ ss) xs) ∙ h) in
    let q = and_parts (list_all (is_among (length L)) es) (list_all (is_among (length L)) ss) (sym (list_all-append (is_among (length L)) es ss) ∙ p.0) in
    let labels = ap (once same_label) (labels-stated x) ∙ once-ordered same_label same_label-tells L [] a (label_numbers x) h g in
    let terms = ap (once term_eq) (stated-terms L T x.steps) ∙ once-ordered term_eq term_eq-tells T (spare 0) b (term_numbers x) k j in
    let eigens = back-eigens L a x.eigens q.0 in
    let spares = back-spares L a x.spares q.1 in
    let steps = back-steps L T a b x.steps p.1 k in
    (λ i. numbered_by (labels i) (terms i) (stated x)) ∙ (λ i. record { limit = x.limit; labels = L; eigens = eigens i; spares = spares i; terms = T; steps = steps i })
