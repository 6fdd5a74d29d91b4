-- A line is that of an entry of a slot where it begins as the slot and an entry stands behind.
use Rattle.std.proofs.Common.{◌≡◌, ℕ, List, ◌++◌, sym, ◌∙◌, ap}
use Rattle.std.proofs.lemmas.List.{append_cancel_left}
use Rattle.finite_model.specs.declared.slot.Slot.{Slot}
use Rattle.finite_model.specs.Reading.{the_slot}
use Rattle.finite_model.specs.Slots.{IsEntryText, IsSlotLine, entry_text}

pub line-read : (s : Slot) (line front rest xs : List ℕ) → front ≡ s.front.items → line ≡ front ++ rest → IsEntryText s.form rest xs → IsSlotLine (the_slot s) line xs
line-read s line front rest xs f e h = record { fits = h.fits; text = e ∙ (λ i. f i ++ h.text i) }

pub line-missing : (s : Slot) (line front : List ℕ) → front ≡ s.front.items → ((rest : List ℕ) → ¬ (line ≡ front ++ rest)) → (xs : List ℕ) → ¬ IsSlotLine (the_slot s) line xs
line-missing s line front f none xs h = none (entry_text s.form xs) (h.text ∙ ap (λ l. l ++ entry_text s.form xs) (sym f))

pub line-refused : (s : Slot) (line front rest : List ℕ) → front ≡ s.front.items → line ≡ front ++ rest → ((xs : List ℕ) → ¬ IsEntryText s.form rest xs) → (xs : List ℕ) → ¬ IsSlotLine (the_slot s) line xs
line-refused s line front rest f e none xs h = none xs (record { fits = h.fits; text = append_cancel_left front rest (entry_text s.form xs) (sym e ∙ h.text ∙ ap (λ l. l ++ entry_text s.form xs) (sym f)) })
