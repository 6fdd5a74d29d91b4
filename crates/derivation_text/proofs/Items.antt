-- What holds of each item of a list that contracts see through a view f holds of the view of each item.
use Rattle.std.proofs.Common.{◌≡◌, ℕ, zero, suc, ◌<◌, List, [], ◌∷◌, map, length, get_or, Bool, IsTrue, arith}
use Rattle.std.specs.List.{list_all}
use Rattle.std.proofs.lemmas.Bool.{and_parts}

pub all-item : {X Y : Type 0} (f : X → Y) (p : Y → Bool) (xs : List X) (ys : List Y) (k : ℕ) (x d : X) → map f xs ≡ ys → k < length xs → x ≡ get_or xs k d → IsTrue (list_all p ys) → IsTrue (p (f x))
all-item f p [] ys k x d m h e a = absurd (omega arith)
all-item f p (y ∷ xs) [] k x d m h e a = absurd (cc)
all-item f p (y ∷ xs) (z ∷ ys) zero x d m h e a =
    let g : f y ≡ z = cc in
    rw (e, g) (and_parts (p z) (list_all p ys) a).0
all-item f p (y ∷ xs) (z ∷ ys) (suc k) x d m h e a =
    let g : map f xs ≡ ys = cc in
    all-item f p xs ys k x d g (omega arith) e (and_parts (p z) (list_all p ys) a).1
