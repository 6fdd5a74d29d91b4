-- Items of lists by their places.
use Rattle.std.proofs.Common.{◌≡◌, ℕ, List, [], ◌∷◌, length, refl, ap, Some, slice_get, get_or, ◌+◌, ◌++◌, take, sym, ◌∙◌}
use Rattle.std.proofs.lemmas.List.{take_more}
use Rattle.std.proofs.lemmas.Option.{slice_get-get_or, slice_get_read, slice_get_within}

-- an item that is read where there is one
pub read-there : {A : Type 0} (xs : List A) (i : ℕ) (x y : A) → slice_get xs i ≡ Some y → x ≡ get_or xs i x → slice_get xs i ≡ Some x
read-there xs i x y e r = slice_get_read xs (length xs) i x refl (slice_get_within xs i y e) r

pub take-next : {A : Type 0} (xs : List A) (i : ℕ) (x : A) → slice_get xs i ≡ Some x → take (i + 1) xs ≡ take i xs ++ x ∷ []
take-next xs i x e =
    let l = slice_get_within xs i x e in
    let q : get_or xs i x ≡ x = let z : Some (get_or xs i x) ≡ Some x = sym (slice_get-get_or xs i x l) ∙ e in cc z in
    take_more xs i x l ∙ ap (λ y. take i xs ++ y ∷ []) q
