-- What is left of a list behind its first items.
use Rattle.std.proofs.Common.{◌≡◌, ℕ, zero, suc, ◌+◌, List, [], ◌∷◌, ◌++◌, length, drop, refl, sym, ◌∙◌, ap, Some, slice_get, arith}

pub drop-next : {A : Type 0} (n : ℕ) (vs : List A) (v : A) (rest : List A) → drop n vs ≡ v ∷ rest → (slice_get vs n ≡ Some v) × (drop (suc n) vs ≡ rest)
drop-next zero [] v rest e = cc e
drop-next zero (w ∷ vs) v rest e = let a : w ≡ v = cc e in let b : vs ≡ rest = cc e in (ap Some a, b)
drop-next (suc n) [] v rest e = cc e
drop-next (suc n) (w ∷ vs) v rest e = drop-next n vs v rest e

pub drop-nothing : {A : Type 0} (k : ℕ) → drop {A = A} k [] ≡ []
drop-nothing zero = refl
drop-nothing (suc k) = refl

pub drop-both : {A : Type 0} (n m : ℕ) (vs : List A) → drop (n + m) vs ≡ drop m (drop n vs)
drop-both zero m vs = let e : 0 + m ≡ m = omega arith in ap (λ k. drop k vs) e
drop-both (suc n) m [] = drop-nothing (suc n + m) ∙ sym (drop-nothing m)
drop-both (suc n) m (v ∷ vs) = let e : suc n + m ≡ suc (n + m) = omega arith in ap (λ k. drop k (v ∷ vs)) e ∙ drop-both n m vs

pub drop-front : {A : Type 0} (xs ys : List A) → drop (length xs) (xs ++ ys) ≡ ys
drop-front [] ys = refl
drop-front (x ∷ xs) ys = drop-front xs ys
