-- A loop that pushes a copy of each item of a list that contracts see through a view f.
use Rattle.std.proofs.Common.{◌≡◌, ℕ, ◌+◌, ◌<◌, List, [], ◌∷◌, ◌++◌, get_or, length, map, refl, take}
use Rattle.std.proofs.lemmas.List.{map-append}
use Rattle.cop_base.proofs.Items.{map-take-item}

pub pushed-copy : {X Y : Type 0} (f : X → Y) (items : List X) (i : ℕ) (x item : X) (old new : List Y)
    → new ≡ old ++ f x ∷ [] → old ≡ map f (take i items) → x ≡ item → i < length items → item ≡ get_or items i item
    → new ≡ map f (take (i + 1) items)
pushed-copy f items i x item old new e h k l m = rw (e, h, k, map-take-item f items i item item l m) refl

-- the same where what is pushed is h of the item
pub pushed-view : {X Y : Type 0} (f : X → Y) (h : Y → Y) (items : List X) (i : ℕ) (x item : X) (old new : List Y)
    → new ≡ old ++ f x ∷ [] → old ≡ map h (map f (take i items)) → f x ≡ h (f item) → i < length items → item ≡ get_or items i item
    → new ≡ map h (map f (take (i + 1) items))
pushed-view f h items i x item old new e k p l m = rw (e, k, p, map-take-item f items i item item l m, map-append h) refl
