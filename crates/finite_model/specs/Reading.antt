-- How far bytes are read as a structure's text.
use Rattle.std.specs.Prelude.{◌≡◌, ℕ, List, ◌∷◌, ◌++◌, drop, IsTrue}
use Rattle.std.specs.List.{list_all}
use Rattle.calculus.specs.declared.fault.StructureCause.{StructureCause}
use Rattle.calculus.specs.Syntax.{Problem}
use Rattle.calculus.specs.FirstWrong.{whole_lines, IsFirstWrong}
use Rattle.calculus.specs.StructureText.{fits_table, is_size, structure_causes, structure_texts}
use Rattle.text_lines.specs.Lines.{AreRead, IsLineAt}
use Rattle.finite_model.specs.declared.head.Head.{Head}
use Rattle.finite_model.specs.declared.slot.Slot.{Slot}
use Rattle.finite_model.specs.Slots.{Place, are_entries, entry_lines, entry_text, head_of, is_entry, slots, table_sizes}

abbrev pub the_slot : Slot → Place
the_slot s = record { front = s.front.items; form = s.form }

-- the line at the place `from` is that of this entry of the slot, and `to` is the place after it
pub record IsSlotAt (bytes : List ℕ) (from to : ℕ) (s : Place) (xs : List ℕ) : Type 0 where
  pub fits : IsTrue (is_entry s.form xs)
  pub line : IsLineAt bytes from to (s.front ++ entry_text s.form xs)

-- the line there is that of no entry of the slot
abbrev pub NoSlotAt : List ℕ → ℕ → Place → Type 0
NoSlotAt bytes from s = (xs : List ℕ) (more : List (List ℕ)) → IsTrue (is_entry s.form xs) → ¬ (whole_lines (drop from bytes) ≡ (s.front ++ entry_text s.form xs) ∷ more)

-- the head is read, and the tables have these sizes
pub record IsHeadRead (P : Problem) (bytes : List ℕ) (h : Head) : Type 0 where
  pub worlds : IsTrue (is_size h.worlds)
  pub elements : IsTrue (is_size h.elements)
  pub fits : IsTrue (list_all (fits_table h.elements) P.symbols)
  pub sizes : h.sizes.items ≡ table_sizes h.elements P.symbols
  pub lines : AreRead bytes (head_of P h.worlds h.elements) h.end

-- entries are read up to this place
pub record AreEntriesRead (P : Problem) (bytes : List ℕ) (worlds elements : ℕ) (es : List (List ℕ)) (place : ℕ) : Type 0 where
  pub are : IsTrue (are_entries (slots P.symbols worlds elements) es)
  pub lines : AreRead bytes (head_of P worlds elements ++ entry_lines (slots P.symbols worlds elements) es) place

-- the bytes are no text, and this is the number and the cause of the first wrong line
abbrev pub IsFaultOf : Problem → List ℕ → ℕ → StructureCause → Type 0
IsFaultOf P bytes line why = IsFirstWrong (structure_texts P) structure_causes bytes line why
