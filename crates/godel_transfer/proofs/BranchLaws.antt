-- The entries of a branch by their numbers, which are counted from 1.
use Rattle.std.proofs.Common.{◌≡◌, ℕ, zero, suc, ◌-◌, ◌<◌, ◌≤◌, List, [], ◌∷◌, length, get_or, map, Some, slice_get, refl, sym, ◌∙◌, ap, subst, arith}
use Rattle.std.specs.Option.{option_map}
use Rattle.std.proofs.lemmas.Option.{slice_get-map, slice_get_read}
use Rattle.calculus.specs.Calculus.{entry_of}
use Rattle.calculus.specs.Derivations as derivation
use Rattle.godel_transfer.specs.BranchView.{AreWithin, the_entry}
use Rattle.godel_transfer.specs.Transfer.{item_or_0, place_of}
use Rattle.godel_transfer.specs.declared.branches.Entry.{Entry}

pub within-at : (labels : List derivation.Label) (xs : List Entry) (k : ℕ) (x d : Entry) → AreWithin labels xs → k < length xs → x ≡ get_or xs k d → x.label < length labels
within-at labels [] k x d h lt e = absurd (omega arith)
within-at labels (y ∷ xs) zero x d h lt e = subst (λ (z : Entry). z.label < length labels) (sym e) h.0
within-at labels (y ∷ xs) (suc k) x d h lt e = within-at labels xs k x d h.1 (omega arith) e

pub entry-at : (labels : List derivation.Label) (xs : List Entry) (n : ℕ) (x : Entry) → 0 < n → n - 1 < length xs → x ≡ get_or xs (n - 1) x → Some (the_entry labels x) ≡ entry_of (map (the_entry labels) xs) n
entry-at labels xs n x pos lt e =
    let at : n ≡ suc (n - 1) = omega arith in
    let here : slice_get (map (the_entry labels) xs) (n - 1) ≡ Some (the_entry labels x) = slice_get-map (the_entry labels) xs (n - 1) ∙ ap (option_map (the_entry labels)) (slice_get_read xs (length xs) (n - 1) x refl lt e) in
    sym (ap (entry_of (map (the_entry labels) xs)) at ∙ here)

item-at : (xs : List Entry) (k : ℕ) (x d : Entry) → k < length xs → x ≡ get_or xs k d → x.place ≡ item_or_0 (map (λ (y : Entry). y.place) xs) k
item-at [] k x d lt e = absurd (omega arith)
item-at (y ∷ xs) zero x d lt e = ap (λ (z : Entry). z.place) e
item-at (y ∷ xs) (suc k) x d lt e = item-at xs k x d (omega arith) e

item-none : (xs : List Entry) (k : ℕ) → length xs ≤ k → 0 ≡ item_or_0 (map (λ (y : Entry). y.place) xs) k
item-none [] k le = refl
item-none (y ∷ xs) zero le = absurd (omega arith)
item-none (y ∷ xs) (suc k) le = item-none xs k (omega arith)

pub place-at : (xs : List Entry) (n : ℕ) (x : Entry) → 0 < n → n - 1 < length xs → x ≡ get_or xs (n - 1) x → x.place ≡ place_of (map (λ (y : Entry). y.place) xs) n
place-at xs n x pos lt e = let at : n ≡ suc (n - 1) = omega arith in item-at xs (n - 1) x x lt e ∙ sym (ap (place_of (map (λ (y : Entry). y.place) xs)) at)

pub place-past : (xs : List Entry) (n : ℕ) → 0 < n → length xs ≤ n - 1 → 0 ≡ place_of (map (λ (y : Entry). y.place) xs) n
place-past xs n pos le = let at : n ≡ suc (n - 1) = omega arith in item-none xs (n - 1) le ∙ sym (ap (place_of (map (λ (y : Entry). y.place) xs)) at)
