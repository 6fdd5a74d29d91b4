-- Laws of what holds of every item of a list: as a test (`all`), and as a statement (`each`).
use Rattle.std.proofs.Common.{Bool, IsTrue, List, Some, [], ap, drop, false, if◌then◌else◌, map, refl, suc, sym, take, true, zero, ℕ, ◌&&◌, ◌++◌, ◌∙◌, ◌∷◌, ◌≡◌}
use Rattle.std.proofs.lemmas.Bool.{and_from, and_parts}
use Rattle.std.proofs.lemmas.List.Folds.{list_all-append}
use Rattle.std.specs.List.{AllByRecursion, filter, list_all}
use Rattle.std.specs.Prelude.{slice_get}

pub all-parts : {A : Type 0} (p : A → Bool) (xs ys : List A) → IsTrue (list_all p (xs ++ ys)) → IsTrue (list_all p xs) × IsTrue (list_all p ys)
all-parts p xs ys h = and_parts (list_all p xs) (list_all p ys) (sym (list_all-append p xs ys) ∙ h)

pub all-append : {A : Type 0} (p : A → Bool) (xs ys : List A) → IsTrue (list_all p xs) → IsTrue (list_all p ys) → IsTrue (list_all p (xs ++ ys))
all-append p xs ys h g = list_all-append p xs ys ∙ and_from (list_all p xs) (list_all p ys) h g

pub all-at : {A : Type 0} (p : A → Bool) (xs : List A) (i : ℕ) (x : A) → IsTrue (list_all p xs) → slice_get xs i ≡ Some x → IsTrue (p x)
all-at p [] i x h e = absurd (cc)
all-at p (y ∷ ys) zero x h e = let q : y ≡ x = cc in rw (← q) (and_parts (p y) (list_all p ys) h).0
all-at p (y ∷ ys) (suc i) x h e = all-at p ys i x (and_parts (p y) (list_all p ys) h).1 e

pub all-weaken : {A : Type 0} (p q : A → Bool) → ((x : A) → IsTrue (p x) → IsTrue (q x)) → (xs : List A) → IsTrue (list_all p xs) → IsTrue (list_all q xs)
all-weaken p q k [] h = refl
all-weaken p q k (x ∷ xs) h = let a = and_parts (p x) (list_all p xs) h in and_from (q x) (list_all q xs) (k x a.0) (all-weaken p q k xs a.1)

pub all-filter : {A : Type 0} (test keep : A → Bool) (xs : List A) → IsTrue (list_all test xs) → IsTrue (list_all test (filter keep xs))
all-filter test keep [] h = refl
all-filter test keep (x ∷ xs) h = by (keep x) (and_parts (test x) (list_all test xs) h) (λ k. all-filter test keep xs k)
  where
    by : (b : Bool) → IsTrue (test x) × IsTrue (list_all test xs) → (IsTrue (list_all test xs) → IsTrue (list_all test (filter keep xs))) → IsTrue (list_all test (if b then x ∷ filter keep xs else filter keep xs))
    by true p next = and_from (test x) (list_all test (filter keep xs)) p.0 (next p.1)
    by false p next = next p.1

pub all-drop : {A : Type 0} (p : A → Bool) (k : ℕ) (xs : List A) → IsTrue (list_all p xs) → IsTrue (list_all p (drop k xs))
all-drop p zero xs h = h
all-drop p (suc k) [] h = refl
all-drop p (suc k) (x ∷ xs) h = all-drop p k xs (and_parts (p x) (list_all p xs) h).1

pub all-take : {A : Type 0} (p : A → Bool) (k : ℕ) (xs : List A) → IsTrue (list_all p xs) → IsTrue (list_all p (take k xs))
all-take p zero xs h = refl
all-take p (suc k) [] h = refl
all-take p (suc k) (x ∷ xs) h = let g = and_parts (p x) (list_all p xs) h in and_from (p x) (list_all p (take k xs)) g.0 (all-take p k xs g.1)

pub each-always : {A : Type 0} (P : A → Type 0) (xs : List A) → ((x : A) → P x) → AllByRecursion P xs
each-always P [] f = tt
each-always P (x ∷ xs) f = (f x, each-always P xs f)

pub each-parts : {A : Type 0} (P : A → Type 0) (xs ys : List A) → AllByRecursion P (xs ++ ys) → AllByRecursion P xs × AllByRecursion P ys
each-parts P [] ys h = (tt, h)
each-parts P (x ∷ xs) ys h = let r = each-parts P xs ys h.1 in ((h.0, r.0), r.1)

pub each-append : {A : Type 0} (Q : A → Type 0) (xs ys : List A) → AllByRecursion Q xs → AllByRecursion Q ys → AllByRecursion Q (xs ++ ys)
each-append Q [] ys h k = k
each-append Q (x ∷ xs) ys h k = (h.0, each-append Q xs ys h.1 k)

pub each-last : {A : Type 0} (Q : A → Type 0) (xs : List A) (x : A) → AllByRecursion Q (xs ++ x ∷ []) → AllByRecursion Q xs × Q x
each-last Q [] x h = (tt, h.0)
each-last Q (y ∷ xs) x h = let k = each-last Q xs x h.1 in ((h.0, k.0), k.1)

pub each-push : {X : Type 0} (P : X → Type 0) (xs : List X) (x : X) → AllByRecursion P xs → P x → AllByRecursion P (xs ++ x ∷ [])
each-push P [] x h k = (k, tt)
each-push P (y ∷ xs) x h k = (h.0, each-push P xs x h.1 k)

pub each-weaken : {A : Type 0} (Q R : A → Type 0) → ((x : A) → Q x → R x) → (xs : List A) → AllByRecursion Q xs → AllByRecursion R xs
each-weaken Q R f [] h = tt
each-weaken Q R f (x ∷ xs) h = (f x h.0, each-weaken Q R f xs h.1)

pub all-map : {A B : Type 0} (f : A → B) (p : B → Bool) (xs : List A) → list_all p (map f xs) ≡ list_all (λ x. p (f x)) xs
all-map f p [] = refl
all-map f p (x ∷ xs) = ap (λ b. p (f x) && b) (all-map f p xs)
