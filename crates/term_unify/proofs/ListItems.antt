-- Items of lists by their places.
use Rattle.std.proofs.Common.{◌≡◌, zero, suc, ℕ, List, [], ◌∷◌, ◌++◌, ◌∙◌, ap, Some, slice_get}
use Rattle.std.specs.List.{flat_map}

-- an item of joined lists is an item of one of them, and conversely
abbrev pub IsItem : ℕ → List ℕ → Type 0
IsItem k xs = (i : ℕ) × (slice_get xs i ≡ Some k)

pub item-left : (k : ℕ) (xs ys : List ℕ) → IsItem k xs → IsItem k (xs ++ ys)
item-left k [] ys p = let z = p.1 in cc z
item-left k (x ∷ xs) ys (zero, e) = (zero, e)
item-left k (x ∷ xs) ys (suc i, e) = let q = item-left k xs ys (i, e) in (suc q.0, q.1)

pub item-right : (k : ℕ) (xs ys : List ℕ) → IsItem k ys → IsItem k (xs ++ ys)
item-right k [] ys p = p
item-right k (x ∷ xs) ys p = let q = item-right k xs ys p in (suc q.0, q.1)

pub item-flat : {A : Type 0} (f : A → List ℕ) (xs : List A) (j : ℕ) (x : A) (k : ℕ) → slice_get xs j ≡ Some x → IsItem k (f x) → IsItem k (flat_map f xs)
item-flat f [] j x k e p = cc e
item-flat f (y ∷ ys) zero x k e p = let q : y ≡ x = cc e in item-left k (f y) (flat_map f ys) (p.0, ap (λ z. slice_get (f z) p.0) q ∙ p.1)
item-flat f (y ∷ ys) (suc j) x k e p = item-right k (f y) (flat_map f ys) (item-flat f ys j x k e p)
