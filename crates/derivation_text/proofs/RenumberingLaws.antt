-- New numbers of labels and terms, each given where its item comes first.
use Rattle.std.proofs.Common.{if◌then◌else◌, ◌≡◌, ℕ, Option, zero, suc, ◌-◌, ◌<◌, ◌≤◌, nat_le, replicate, List, [], ◌∷◌, ◌++◌, length, get_or, set, Bool, true, false, ◌||◌, ◌==◌, IsTrue, refl, sym, ◌∙◌, ap, subst, arith, eq-eqb, eqb-true}
use Rattle.std.proofs.Math.ListN.{length-set}
use Rattle.std.proofs.lemmas.Bool.{and_parts, leb-true, true≢false}
use Rattle.std.proofs.lemmas.Grind.{get_or-set_at}
use Rattle.std.proofs.lemmas.List.{length-replicate}
use Rattle.calculus.proofs.EqualityLaws.{Tells}
use Rattle.calculus.specs.Derivations.{Home, Label, ModalArg, TermArg, apply_to}
use Rattle.calculus.specs.Versions.{NumberedDerivation, NumberedModal, NumberedTerm, home_number, is_among, number_in, numbered, numbered_arg, numbered_modal, numbered_use, same_label}
use Rattle.derivation_text.specs.Entering.{entered, has, put_eigen, put_spare, put_step, with_arg, with_home, with_label, with_modal}
use Rattle.derivation_text.specs.NumberedBody.{eigen_of, spare_of, step_of, with_numbered_line}
use Rattle.derivation_text.specs.Renumbering.{AreNew, IsNew, with_labels, with_terms}
use Rattle.derivation_text.proofs.AmongLaws.{entered-among, has-entered}
use Rattle.derivation_text.proofs.OnceLaws.{Grows, entered-grows, number-kept}
use Rattle.derivation_text.proofs.PlaceLaws.{get-set-other}

pub numbered-at : {A : Type 0} (xs : List A) (n k : ℕ) (none : A) → 0 < n → k ≡ n - 1 → numbered xs n none ≡ get_or xs k none
numbered-at xs zero k none h e = absurd (omega (arith, h))
numbered-at xs (suc n) k none h e = let s : n ≡ k = omega (arith, e) in ap (λ j. get_or xs j none) s

has-more : {A : Type 0} (same : A → A → Bool) (xs ys : List A) (x : A) → IsTrue (has same xs x) → IsTrue (has same (xs ++ ys) x)
has-more same [] ys x h = absurd (true≢false (sym h))
has-more {A} same (y ∷ xs) ys x h = by (same y x) h (has-more same xs ys x)
  where
    by : (b : Bool) → IsTrue (b || has same xs x) → (IsTrue (has same xs x) → IsTrue (has same (xs ++ ys) x)) → IsTrue (b || has same (xs ++ ys) x)
    by true h rest = refl
    by false h rest = rest h

-- what is entered is new
pub new-entered : {A : Type 0} (same : A → A → Bool) → Tells same → (xs ys : List A) (x : A) (n : ℕ) → ys ≡ entered same xs x → n ≡ number_in same ys x → IsNew same ys x n
new-entered same tells xs ys x n e h = record { has = subst (λ l. IsTrue (has same l x)) (sym e) (has-entered same tells xs x); number = h }

new-kept : {A : Type 0} (same : A → A → Bool) (xs ys : List A) (x : A) (n : ℕ) → Grows xs ys → IsNew same xs x n → IsNew same ys x n
new-kept same xs ys x n g h = record { has = subst (λ l. IsTrue (has same l x)) (sym g.all) (has-more same xs g.more x h.has); number = h.number ∙ sym (number-kept same xs ys x g h.has) }

-- a known item changes nothing when it is entered
pub entered-known : {A : Type 0} (same : A → A → Bool) (xs : List A) (x : A) (n : ℕ) → IsNew same xs x n → xs ≡ entered same xs x
entered-known same xs x n h = ap (λ b. if b then xs else xs ++ x ∷ []) (sym h.has)

pub new-among : {A : Type 0} (same : A → A → Bool) → Tells same → (xs : List A) (x : A) (n : ℕ) → IsNew same xs x n → IsTrue (is_among (length xs) n)
new-among same tells xs x n h =
    let e = sym (entered-known same xs x n h) in
    subst (λ k. IsTrue (is_among (length xs) k)) (sym h.number) (subst (λ l. IsTrue (is_among (length l) (number_in same l x))) e (entered-among same tells xs x))

-- the lists grow by the item, which gets its number
pub new-put : {A : Type 0} (same : A → A → Bool) → Tells same → (none : A) (old xs ys : List A) (numbers : List ℕ) (k n : ℕ) → AreNew same none old xs numbers → ys ≡ entered same xs (get_or old k none) → n ≡ number_in same ys (get_or old k none) → k < length numbers → AreNew same none old ys (set numbers k n)
new-put {A} same tells none old xs ys numbers k n h e m l = record { length = length-set numbers k n ∙ h.length; each = λ j. by j (k == j) refl }
  where
    grows : Grows xs ys
    grows = subst (Grows xs) (sym e) (entered-grows same xs (get_or old k none))

    by : (j : ℕ) (b : Bool) → (k == j) ≡ b → 0 < get_or (set numbers k n) j 0 → IsNew same ys (get_or old j none) (get_or (set numbers k n) j 0)
    by j true q p = let here : k ≡ j = eqb-true k j q in
        subst (IsNew same ys (get_or old j none)) (sym (get_or-set_at numbers k j n 0 (sym here) l)) (subst (λ i. IsNew same ys (get_or old i none) n) here (new-entered same tells xs ys (get_or old k none) n e m))
    by j false q p = let other : k ≡ j → ⊥ = λ here. true≢false (sym (eq-eqb k j here) ∙ q) in
        let o = get-set-other numbers k j n other in
        subst (IsNew same ys (get_or old j none)) (sym o) (new-kept same xs ys (get_or old j none) (get_or numbers j 0) grows (h.each j (subst (λ v. 0 < v) o p)))

-- ---- names and steps that are put under new numbers

pub eigen-put : (z y w : NumberedDerivation) (number k : ℕ) (x : Label) → y ≡ with_labels z (with_label z.labels x) → IsNew same_label y.labels x k → w ≡ with_numbered_line y (eigen_of (record { number = number; home = k })) → w ≡ put_eigen z (record { number = number; home = x })
eigen-put z y w number k x e h q =
    let m : k ≡ number_in same_label (with_label z.labels x) x = h.number ∙ ap (λ (d : NumberedDerivation). number_in same_label d.labels x) e in
    q ∙ (λ i. with_numbered_line (e i) (eigen_of (record { number = number; home = m i })))

pub spare-put : (z y w : NumberedDerivation) (number : ℕ) (k : Option ℕ) (x : Home) → y ≡ with_labels z (with_home z.labels x) → k ≡ home_number y.labels x → w ≡ with_numbered_line y (spare_of (record { number = number; home = k })) → w ≡ put_spare z (record { number = number; home = x })
spare-put z y w number k x e h q =
    let m : k ≡ home_number (with_home z.labels x) x = h ∙ ap (λ (d : NumberedDerivation). home_number d.labels x) e in
    q ∙ (λ i. with_numbered_line (e i) (spare_of (record { number = number; home = m i })))

pub use-put : (z y v w : NumberedDerivation) (n : ℕ) (a : NumberedModal) (b : NumberedTerm) (m : ModalArg) (t : TermArg) → y ≡ with_labels z (with_modal z.labels m) → a ≡ numbered_modal y.labels m → v ≡ with_terms y (with_arg y.terms t) → b ≡ numbered_arg v.terms t → w ≡ with_numbered_line v (step_of (numbered_use n a b)) → w ≡ put_step z (apply_to n m t)
use-put z y v w n a b m t e h f g q =
    let all : v ≡ with_terms (with_labels z (with_modal z.labels m)) (with_arg z.terms t) = f ∙ (λ i. with_terms (e i) (with_arg ((e i).terms) t)) in
    let p : a ≡ numbered_modal (with_modal z.labels m) m = h ∙ ap (λ (d : NumberedDerivation). numbered_modal d.labels m) e in
    let r : b ≡ numbered_arg (with_arg z.terms t) t = g ∙ ap (λ (d : NumberedDerivation). numbered_arg d.terms t) all in
    q ∙ (λ i. with_numbered_line (all i) (step_of (numbered_use n (p i) (r i))))

-- ---- one item by its old number

among-bounds : (n k : ℕ) → IsTrue (is_among n k) → (0 < k) × (k ≤ n)
among-bounds n k a =
    let p = and_parts (nat_le 1 k) (nat_le k n) a in
    let l = leb-true 1 k p.0 in
    (omega (arith, l), leb-true k n p.1)

-- it has its new number
pub known-item : {A : Type 0} (same : A → A → Bool) (none : A) (items xs : List A) (numbers : List ℕ) (old place known : ℕ) → AreNew same none items xs numbers → IsTrue (is_among (length items) old) → place ≡ old - 1 → known ≡ get_or numbers place 0 → 0 < known → IsNew same xs (numbered items old none) known
known-item same none items xs numbers old place known h a p e k =
    let n = h.each place (subst (λ v. 0 < v) e k) in
    subst (λ x. IsNew same xs x known) (sym (numbered-at items old place none (among-bounds (length items) old a).0 p)) (subst (IsNew same xs (get_or items place none)) (sym e) n)

-- it gets one
pub fresh-item : {A : Type 0} (same : A → A → Bool) → Tells same → (none : A) (items xs ys : List A) (numbers : List ℕ) (old place number : ℕ) → AreNew same none items xs numbers → IsTrue (is_among (length items) old) → place ≡ old - 1 → ys ≡ entered same xs (numbered items old none) → number ≡ number_in same ys (numbered items old none) → AreNew same none items ys (set numbers place number)
fresh-item same tells none items xs ys numbers old place number h a p e m =
    let b = among-bounds (length items) old a in
    let at = numbered-at items old place none b.0 p in
    let l = h.length in
    new-put same tells none items xs ys numbers place number h (e ∙ ap (entered same xs) at) (m ∙ ap (number_in same ys) at) (omega (arith, l, b.0, b.1, p))

-- ---- no number is given yet

none-at : (n k : ℕ) → get_or (replicate n zero) k zero ≡ zero
none-at zero k = refl
none-at (suc n) zero = refl
none-at (suc n) (suc k) = none-at n k

pub none-new : {A : Type 0} (same : A → A → Bool) (none : A) (items xs : List A) (numbers : List ℕ) → numbers ≡ replicate (length items) 0 → AreNew same none items xs numbers
none-new same none items xs numbers e = record {
  length = ap length e ∙ length-replicate (length items) 0;
  each = λ k p. absurd (let z : get_or numbers k 0 ≡ 0 = ap (λ l. get_or l k 0) e ∙ none-at (length items) k in omega (arith, z, p));
}
