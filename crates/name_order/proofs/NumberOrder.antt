-- Sorted names are a numbering.
use Rattle.std.proofs.Common.{◌≡◌, ℕ, List, [], ◌∷◌, Some, refl, map, slice_get, zero, suc}
use Rattle.plain_laws.proofs.Options.{none_some, some_injective}

pub at-map : {A B : Type 0} (f : A → B) (xs : List A) (i : ℕ) (y : B) → slice_get (map f xs) i ≡ Some y → (x : A) × (slice_get xs i ≡ Some x) × (f x ≡ y)
at-map f [] i y e = absurd (none_some e)
at-map f (x ∷ xs) zero y e = (x, refl, some_injective (f x) e)
at-map f (x ∷ xs) (suc i) y e = at-map f xs i y e
