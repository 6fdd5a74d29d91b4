-- What holds of the first items of a list.
use Rattle.std.proofs.Common.{◌≡◌, ℕ, ◌+◌, ◌<◌, ◌≤◌, List, length, sym, ◌∙◌, ap, subst, Some, slice_get, inl, inr, arith}
use Rattle.std.proofs.lemmas.Bool.{cases_lt}
use Rattle.plain_laws.proofs.Places.{get-within}

abbrev pub AllTo : {A : Type 0} → List A → ℕ → (A → Type 0) → Type 0
AllTo {A} xs i P = (j : ℕ) (x : A) → j < i → slice_get xs j ≡ Some x → P x

pub all-start : {A : Type 0} (xs : List A) (P : A → Type 0) → AllTo xs 0 P
all-start xs P j x l at = absurd (omega (arith, l))

pub all-next : {A : Type 0} (xs : List A) (i : ℕ) (x : A) (P : A → Type 0) → AllTo xs i P → slice_get xs i ≡ Some x → P x → AllTo xs (i + 1) P
all-next xs i x P h at now j y l e = elim (cases_lt j i) [
  | inl less ↦ h j y less e
  | inr more ↦ (let same : j ≡ i = omega (arith, l, more) in let z : x ≡ y = let w : Some x ≡ Some y = sym at ∙ ap (slice_get xs) (sym same) ∙ e in cc w in subst P z now)
]

pub all-whole : {A : Type 0} (xs : List A) (i : ℕ) (P : A → Type 0) → length xs ≤ i → AllTo xs i P → (j : ℕ) (x : A) → slice_get xs j ≡ Some x → P x
all-whole xs i P l h j x e = h j x (let m = get-within xs j x e in omega (arith, l, m)) e
