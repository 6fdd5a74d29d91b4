-- Which texts are entries of a form.
use Rattle.std.proofs.Common.{◌≡◌, ℕ, List, length, Bool, true, false, ◌==◌, nat_lt, IsTrue, sym, ◌∙◌, ap}
use Rattle.std.specs.List.{list_all}
use Rattle.std.proofs.lemmas.Bool.{and_parts, and_from, eqb-true, false≢true}
use Rattle.calculus.specs.StructureText.{numbers_text, rises}
use Rattle.finite_model.specs.declared.slot.Form.TheVariants.{Rising, Values}
use Rattle.finite_model.specs.Slots.{IsEntryText}

abbrev below : ℕ → List ℕ → Bool
below most xs = list_all (λ x. nat_lt x most) xs

pub rising-read : (most : ℕ) (bytes v : List ℕ) → bytes ≡ numbers_text v → IsTrue (list_all (λ x. nat_lt x most) v) → rises v ≡ true → IsEntryText (Rising most) bytes v
rising-read most bytes v e h k = record { fits = and_from (below most v) (rises v) h k; text = e }

pub rising-refused : (most : ℕ) (bytes v : List ℕ) → ((xs : List ℕ) → IsTrue (list_all (λ x. nat_lt x most) xs) → bytes ≡ numbers_text xs → xs ≡ v) → rises v ≡ false → (xs : List ℕ) → ¬ IsEntryText (Rising most) bytes xs
rising-refused most bytes v one falls xs h = let p = and_parts (below most xs) (rises xs) h.fits in false≢true (sym falls ∙ ap rises (sym (one xs p.0 h.text)) ∙ p.1)

pub rising-none : (most : ℕ) (bytes : List ℕ) → ((xs : List ℕ) → IsTrue (list_all (λ x. nat_lt x most) xs) → ¬ (bytes ≡ numbers_text xs)) → (xs : List ℕ) → ¬ IsEntryText (Rising most) bytes xs
rising-none most bytes none xs h = none xs (and_parts (below most xs) (rises xs) h.fits).0 h.text

pub values-read : (count most : ℕ) (bytes v : List ℕ) → bytes ≡ numbers_text v → IsTrue (list_all (λ x. nat_lt x most) v) → (length v == count) ≡ true → IsEntryText (Values count most) bytes v
values-read count most bytes v e h k = record { fits = and_from (below most v) (length v == count) h k; text = e }

pub values-refused : (count most : ℕ) (bytes v : List ℕ) → ((xs : List ℕ) → IsTrue (list_all (λ x. nat_lt x most) xs) → bytes ≡ numbers_text xs → xs ≡ v) → ¬ (length v ≡ count) → (xs : List ℕ) → ¬ IsEntryText (Values count most) bytes xs
values-refused count most bytes v one apart xs h = let p = and_parts (below most xs) (length xs == count) h.fits in apart (ap length (sym (one xs p.0 h.text)) ∙ eqb-true (length xs) count p.1)

pub values-none : (count most : ℕ) (bytes : List ℕ) → ((xs : List ℕ) → IsTrue (list_all (λ x. nat_lt x most) xs) → ¬ (bytes ≡ numbers_text xs)) → (xs : List ℕ) → ¬ IsEntryText (Values count most) bytes xs
values-none count most bytes none xs h = none xs (and_parts (below most xs) (length xs == count) h.fits).0 h.text
