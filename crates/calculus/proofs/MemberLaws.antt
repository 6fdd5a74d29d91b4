-- What a test of all or of some numbers of a list says of those in it, and numbers that stand in a row.
use Rattle.std.proofs.Common.{◌≡◌, ℕ, zero, suc, ◌+◌, ◌<◌, List, [], ◌∷◌, Bool, true, false, ◌==◌, refl, sym, ◌∙◌, subst, inl, inr, arith, eqb-true, eq-eqb}
use Rattle.std.specs.List.{list_all, list_any}
use Rattle.std.proofs.lemmas.Bool.{false≢true, cases_Bool, and_parts, and_from, and_cases, or_cases, or_parts, or_left, or_right}
use Rattle.calculus.specs.Equality.{contains}
use Rattle.calculus.specs.Structures.{numbers_from}

-- every one of those that the list contains passes
pub all-contained : (p : ℕ → Bool) (xs : List ℕ) (x : ℕ) → list_all p xs ≡ true → contains xs x ≡ true → p x ≡ true
all-contained p [] x h m = absurd (false≢true m)
all-contained p (y ∷ ys) x h m =
    let parts = and_parts (p y) (list_all p ys) h in
    elim (or_cases (y == x) (contains ys x) m) [
      | inl e ↦ subst (λ z. p z ≡ true) (eqb-true y x e) parts.0
      | inr e ↦ all-contained p ys x parts.1 e
    ]

-- none of those that the list contains passes
pub none-contained : (p : ℕ → Bool) (xs : List ℕ) (x : ℕ) → list_any p xs ≡ false → contains xs x ≡ true → p x ≡ false
none-contained p [] x h m = absurd (false≢true m)
none-contained p (y ∷ ys) x h m =
    let parts = or_parts (p y) (list_any p ys) h in
    elim (or_cases (y == x) (contains ys x) m) [
      | inl e ↦ subst (λ z. p z ≡ false) (eqb-true y x e) parts.0
      | inr e ↦ none-contained p ys x parts.1 e
    ]

contains-head : (y : ℕ) (ys : List ℕ) → contains (y ∷ ys) y ≡ true
contains-head y ys = or_left (y == y) (contains ys y) (eq-eqb y y refl)

contains-tail : (y : ℕ) (ys : List ℕ) (x : ℕ) → contains ys x ≡ true → contains (y ∷ ys) x ≡ true
contains-tail y ys x m = or_right (y == x) (contains ys x) m

-- some one of those that the list contains fails
pub failing : (p : ℕ → Bool) (xs : List ℕ) → list_all p xs ≡ false → (x : ℕ) × (contains xs x ≡ true) × (p x ≡ false)
failing p [] h = absurd (false≢true (sym h))
failing p (y ∷ ys) h = elim (and_cases (p y) (list_all p ys) h) [
  | inl e ↦ (y, contains-head y ys, e)
  | inr e ↦ let r = failing p ys e in (r.0, contains-tail y ys r.0 r.1, r.2)
]

-- some one of those that the list contains passes
pub passing : (p : ℕ → Bool) (xs : List ℕ) → list_any p xs ≡ true → (x : ℕ) × (contains xs x ≡ true) × (p x ≡ true)
passing p [] h = absurd (false≢true h)
passing p (y ∷ ys) h = elim (or_cases (p y) (list_any p ys) h) [
  | inl e ↦ (y, contains-head y ys, e)
  | inr e ↦ let r = passing p ys e in (r.0, contains-tail y ys r.0 r.1, r.2)
]

pub all-from_each : (p : ℕ → Bool) (xs : List ℕ) → ((x : ℕ) → contains xs x ≡ true → p x ≡ true) → list_all p xs ≡ true
all-from_each p [] h = refl
all-from_each p (y ∷ ys) h = and_from (p y) (list_all p ys) (h y (contains-head y ys)) (all-from_each p ys (λ x m. h x (contains-tail y ys x m)))

-- numbers in a row
pub all-numbers : (p : ℕ → Bool) (a n k : ℕ) → list_all p (numbers_from a n) ≡ true → k < n → p (a + k) ≡ true
all-numbers p a zero k h less = absurd (omega arith)
all-numbers p a (suc n) zero h less =
    let e : a ≡ a + 0 = omega arith in
    subst (λ z. p z ≡ true) e (and_parts (p a) (list_all p (numbers_from (suc a) n)) h).0
all-numbers p a (suc n) (suc k) h less =
    let e : suc a + k ≡ a + suc k = omega arith in
    subst (λ z. p z ≡ true) e (all-numbers p (suc a) n k (and_parts (p a) (list_all p (numbers_from (suc a) n)) h).1 (omega arith))

pub any-from_one : (p : ℕ → Bool) (xs : List ℕ) (x : ℕ) → contains xs x ≡ true → p x ≡ true → list_any p xs ≡ true
any-from_one p xs x m e = elim (cases_Bool (list_any p xs)) [
  | inl h ↦ h
  | inr h ↦ absurd (false≢true (sym (none-contained p xs x h m) ∙ e))
]
