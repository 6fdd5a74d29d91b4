-- Lists of cells and of places, place by place.
use Rattle.std.proofs.Common.{◌⊎◌, ◌++◌, inl, inr, eqb-true, eq-eqb, Some, ◌||◌, ◌==◌, ◌≡◌, ℕ, zero, suc, List, [], ◌∷◌, length, Bool, true, false, IsTrue, refl, ap, subst}
use Rattle.std.specs.List.{list_all}
use Rattle.std.specs.Prelude.{slice_get}
use Rattle.std.proofs.lemmas.Bool.{cases_Bool, false≢true, and_parts, and_from}
use Rattle.calculus.specs.Equality.{contains}

pub all-from : {A : Type 0} (p : A → Bool) (xs : List A) → ((i : ℕ) (x : A) → slice_get xs i ≡ Some x → IsTrue (p x)) → IsTrue (list_all p xs)
all-from p [] h = refl
all-from p (x ∷ xs) h = and_from (p x) (list_all p xs) (h 0 x refl) (all-from p xs (λ i y e. h (suc i) y e))

pub all-more : {A : Type 0} (p q : A → Bool) (xs : List A) → ((x : A) → IsTrue (p x) → IsTrue (q x)) → IsTrue (list_all p xs) → IsTrue (list_all q xs)
all-more p q [] h k = refl
all-more p q (x ∷ xs) h k = let a = and_parts (p x) (list_all p xs) k in and_from (q x) (list_all q xs) (h x a.0) (all-more p q xs h a.1)

pub get-last : {A : Type 0} (xs : List A) (i : ℕ) (x y : A) → slice_get (xs ++ y ∷ []) i ≡ Some x → (slice_get xs i ≡ Some x) ⊎ ((i ≡ length xs) × (y ≡ x))
get-last [] zero x y e = inr (refl, cc)
get-last [] (suc i) x y e = absurd (cc)
get-last (z ∷ xs) zero x y e = inl e
get-last (z ∷ xs) (suc i) x y e = elim (get-last xs i x y e) [ inl h ↦ inl h | inr (h, k) ↦ inr (ap suc h, k) ]

-- lists of places
pub contains-append : (rs qs : List ℕ) (k : ℕ) → contains (rs ++ qs) k ≡ (contains rs k || contains qs k)
contains-append [] qs k = refl
contains-append (r ∷ rs) qs k = by (r == k) (contains-append rs qs k)
  where
    by : (b : Bool) → contains (rs ++ qs) k ≡ (contains rs k || contains qs k) → (b || contains (rs ++ qs) k) ≡ ((b || contains rs k) || contains qs k)
    by true e = refl
    by false e = e

pub contains-at : (rs : List ℕ) (i r : ℕ) → slice_get rs i ≡ Some r → IsTrue (contains rs r)
contains-at [] i r e = absurd (cc)
contains-at (q ∷ rs) zero r e = let h : q ≡ r = cc in rw (eq-eqb q r h) refl
contains-at (q ∷ rs) (suc i) r e = by (q == r) (contains-at rs i r e)
  where
    by : (b : Bool) → contains rs r ≡ true → (b || contains rs r) ≡ true
    by true h = refl
    by false h = h

pub all-contained : (p : ℕ → Bool) (rs : List ℕ) → ((k : ℕ) → contains rs k ≡ true → p k ≡ true) → IsTrue (list_all p rs)
all-contained p rs h = all-from p rs (λ i x e. h x (contains-at rs i x e))

pub contained : (p : ℕ → Bool) (rs : List ℕ) (k : ℕ) → IsTrue (list_all p rs) → contains rs k ≡ true → p k ≡ true
contained p [] k h e = absurd (false≢true e)
contained p (r ∷ rs) k h e = let a = and_parts (p r) (list_all p rs) h in elim (cases_Bool (r == k)) [
  | inl same ↦ subst (λ x. IsTrue (p x)) (eqb-true r k same) a.0
  | inr other ↦ contained p rs k a.1 (rw other at e)
]
