-- Rows from digit to digit.
use Rattle.std.proofs.Common.{◌≡◌, ℕ, ◌+◌, ◌<◌, ◌≤◌, List, ◌∷◌, length, drop, get_or, Bool, true, false, not, ◌&&◌, ◌||◌, ◌∙◌, ap, sym, refl, add-one, drop-cons}
use Rattle.std.proofs.Math.ListN.{drop_of_length-le}
use Rattle.finite_model.specs.Conditions.{is_row_kept}
use Rattle.finite_model.specs.StructureView.{is_one}

rows-next : (row others : List ℕ) (i : ℕ) → i < length row → i < length others → is_row_kept (drop i row) (drop i others) ≡ ((not (is_one (get_or row i 0)) || is_one (get_or others i 0)) && is_row_kept (drop (i + 1) row) (drop (i + 1) others))
rows-next row others i h k = λ j. is_row_kept (left j) (right j)
  where
    left : drop i row ≡ get_or row i 0 ∷ drop (i + 1) row
    left = rw add-one (drop-cons row i 0 h)

    right : drop i others ≡ get_or others i 0 ∷ drop (i + 1) others
    right = rw add-one (drop-cons others i 0 k)

-- one more digit of both
pub row-on : (row others : List ℕ) (i : ℕ) (kept digit : Bool) → i < length row → i < length others → digit ≡ (not (is_one (get_or row i 0)) || is_one (get_or others i 0)) → ((kept && digit) && is_row_kept (drop (i + 1) row) (drop (i + 1) others)) ≡ (kept && is_row_kept (drop i row) (drop i others))
row-on row others i true digit h k e = ap (λ b. b && is_row_kept (drop (i + 1) row) (drop (i + 1) others)) e ∙ sym (rows-next row others i h k)
row-on row others i false digit h k e = refl

pub row-end : (row others : List ℕ) (i : ℕ) (kept : Bool) → length row ≤ i → (kept && is_row_kept (drop i row) (drop i others)) ≡ kept
row-end row others i true h = ap (λ l. is_row_kept l (drop i others)) (drop_of_length-le row h)
row-end row others i false h = refl
