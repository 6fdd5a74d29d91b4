-- Elements of lists: a form of `Contains` by recursion, and members of joined lists.
use Rattle.std.proofs.Common.{◌≡◌, ◌⊎◌, ℕ, zero, suc, List, [], ◌∷◌, ◌++◌, flat_map, Contains, Some, refl, sym, ◌∙◌, ap, subst, inl, inr, slice_get}
use Rattle.std.proofs.lemmas.Option.{slice_get-get_or, slice_get_within, get_or_from_slice_get}
use Rattle.std.specs.List.{AllByRecursion}
use Rattle.plain_laws.proofs.Options.{none_some, some_injective}

-- x is an element
abbrev pub Among : {A : Type 0} → List A → A → Type 0
Among [] x = ⊥
Among (y ∷ ys) x = (y ≡ x) ⊎ Among ys x

pub among-at : {A : Type 0} (xs : List A) (i : ℕ) (x : A) → slice_get xs i ≡ Some x → Among xs x
among-at [] i x e = none_some e
among-at (y ∷ ys) zero x e = inl (some_injective y e)
among-at (y ∷ ys) (suc i) x e = inr (among-at ys i x e)

pub at-among : {A : Type 0} (xs : List A) (x : A) → Among xs x → (i : ℕ) × (slice_get xs i ≡ Some x)
at-among [] x h = elim h [ ]
at-among {A} (y ∷ ys) x (inl e) = (0, ap {B = _} Some e)
at-among (y ∷ ys) x (inr h) = let r = at-among ys x h in (suc r.0, r.1)

pub contains-at : {A : Type 0} (xs : List A) (i : ℕ) (x : A) → slice_get xs i ≡ Some x → Contains xs x
contains-at xs i x e = (i, slice_get_within xs i x e, get_or_from_slice_get xs i x x e)

pub at-contains : {A : Type 0} (xs : List A) (x : A) → Contains xs x → (i : ℕ) × (slice_get xs i ≡ Some x)
at-contains xs x h = (h.0, slice_get-get_or xs h.0 x h.1 ∙ ap Some h.2)

pub among-contains : {A : Type 0} (xs : List A) (x : A) → Contains xs x → Among xs x
among-contains xs x h = let r = at-contains xs x h in among-at xs r.0 x r.1

pub contains-among : {A : Type 0} (xs : List A) (x : A) → Among xs x → Contains xs x
contains-among xs x h = let r = at-among xs x h in contains-at xs r.0 x r.1

pub among-left : {A : Type 0} (xs ys : List A) (x : A) → Among xs x → Among (xs ++ ys) x
among-left [] ys x h = elim h [ ]
among-left (z ∷ zs) ys x (inl e) = inl e
among-left (z ∷ zs) ys x (inr h) = inr (among-left zs ys x h)

pub among-right : {A : Type 0} (xs ys : List A) (x : A) → Among ys x → Among (xs ++ ys) x
among-right [] ys x h = h
among-right (z ∷ zs) ys x h = inr (among-right zs ys x h)

pub among-append : {A : Type 0} (xs ys : List A) (x : A) → Among (xs ++ ys) x → Among xs x ⊎ Among ys x
among-append [] ys x h = inr h
among-append (z ∷ zs) ys x (inl e) = inl (inl e)
among-append (z ∷ zs) ys x (inr h) = elim (among-append zs ys x h) [ inl k ↦ inl (inr k) | inr k ↦ inr k ]

-- members of a list of lists that are joined
pub among-joined : {A B : Type 0} (f : A → List B) (xs : List A) (x : B) → Among (flat_map f xs) x → (y : A) × Among xs y × Among (f y) x
among-joined f [] x h = elim h [ ]
among-joined {A} {B} f (z ∷ zs) x h = elim (among-append (f z) (flat_map f zs) x h) [
  | inl k ↦ (z, inl refl, k)
  | inr k ↦ let r = among-joined f zs x k in (r.0, inr r.1, r.2)
]

pub joined-among : {A B : Type 0} (f : A → List B) (xs : List A) (y : A) (x : B) → Among xs y → Among (f y) x → Among (flat_map f xs) x
joined-among f [] y x h k = elim h [ ]
joined-among f (z ∷ zs) y x (inl e) k = among-left (f z) (flat_map f zs) x (subst (λ w. Among (f w) x) (sym e) k)
joined-among f (z ∷ zs) y x (inr h) k = among-right (f z) (flat_map f zs) x (joined-among f zs y x h k)

pub among-all : {A : Type 0} (P : A → Type 0) (xs : List A) (x : A) → AllByRecursion P xs → Among xs x → P x
among-all P [] x h k = elim k [ ]
among-all P (y ∷ ys) x h (inl e) = subst P e h.0
among-all P (y ∷ ys) x h (inr k) = among-all P ys x h.1 k

pub all-among : {A : Type 0} (P : A → Type 0) (xs : List A) → ((x : A) → Among xs x → P x) → AllByRecursion P xs
all-among P [] h = tt
all-among P (y ∷ ys) h = (h y (inl refl), all-among P ys (λ x k. h x (inr k)))
