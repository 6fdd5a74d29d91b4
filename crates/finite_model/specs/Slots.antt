-- The lines behind the head of a structure's text, as slots: the problem and the sizes decide how each begins and what may stand behind,
-- so the text is a list of entries. What the entries say is a structure.
use Rattle.std.specs.Prelude.{◌≡◌, ℕ, zero, suc, ◌^◌, List, [], ◌∷◌, ◌++◌, length, map, take, drop, Bool, true, false, ◌&&◌, ◌||◌, ◌==◌, nat_lt, IsTrue, codes, decimal, if◌then◌else◌}
use Rattle.std.specs.List.{list_all}
use Rattle.calculus.specs.Syntax.{Symbol, Problem}
use Rattle.calculus.specs.Skolem.{is_function}
use Rattle.calculus.specs.DerivationText.{setting_text}
use Rattle.calculus.specs.Structures.{Meaning, value_table, truth_tables, Structure}
use Rattle.calculus.specs.StructureText.{numbers_text, symbol_head, rises}
use Rattle.finite_model.specs.StructureView.{is_one}
use Rattle.finite_model.specs.declared.slot.Form.{Form}
use Rattle.finite_model.specs.declared.slot.Form.TheVariants.{Rising, Values, Digits}

-- ---- entries

abbrev pub is_bit_digit : ℕ → Bool
is_bit_digit b = b == 48 || b == 49

abbrev pub is_entry : Form → List ℕ → Bool
is_entry (Rising most) xs = list_all (λ x. nat_lt x most) xs && rises xs
is_entry (Values count most) xs = list_all (λ x. nat_lt x most) xs && length xs == count
is_entry (Digits count) xs = list_all is_bit_digit xs && length xs == count

abbrev pub entry_text : Form → List ℕ → List ℕ
entry_text (Rising most) xs = numbers_text xs
entry_text (Values count most) xs = numbers_text xs
entry_text (Digits count) xs = xs

-- the text is that of an entry of this form
pub record IsEntryText (form : Form) (bytes xs : List ℕ) : Type 0 where
  pub fits : IsTrue (is_entry form xs)
  pub text : bytes ≡ entry_text form xs

-- ---- slots

pub record Place : Type 0 where
  pub front : List ℕ
  pub form : Form

abbrev pub place_slot : List ℕ → Form → Place
place_slot front form = record { front = front; form = form }

-- how many tuples of elements each symbol has
abbrev pub table_sizes : ℕ → List Symbol → List ℕ
table_sizes elements symbols = map (λ (s : Symbol). elements ^ s.arity) symbols

-- the line is that of an entry of this slot
pub record IsSlotLine (s : Place) (line xs : List ℕ) : Type 0 where
  pub fits : IsTrue (is_entry s.form xs)
  pub text : line ≡ s.front ++ entry_text s.form xs

-- one for each world, from world w on
abbrev pub world_slots : List ℕ → List ℕ → Form → ℕ → ℕ → List Place
world_slots word after form w zero = []
world_slots word after form w (suc n) = record { front = word ++ decimal (suc w) ++ after; form = form } ∷ world_slots word after form (suc w) n

abbrev pub function_slot : ℕ → Symbol → Place
function_slot elements s = record { front = codes "function " ++ symbol_head s; form = Values (elements ^ s.arity) elements }

abbrev pub function_slots : ℕ → List Symbol → List Place
function_slots elements [] = []
function_slots elements (s ∷ ss) = if is_function s.class then record { front = codes "function " ++ symbol_head s; form = Values (elements ^ s.arity) elements } ∷ function_slots elements ss else function_slots elements ss

abbrev pub predicate_slots : ℕ → ℕ → List Symbol → List Place
predicate_slots worlds elements [] = []
predicate_slots worlds elements (s ∷ ss) = if is_function s.class then predicate_slots worlds elements ss else world_slots (codes "predicate " ++ symbol_head s ++ codes " ") (codes " ") (Digits (elements ^ s.arity)) 0 worlds ++ predicate_slots worlds elements ss

abbrev pub slots : List Symbol → ℕ → ℕ → List Place
slots symbols worlds elements =
    world_slots (codes "relation ") [] (Rising worlds) 0 worlds
    ++ (world_slots (codes "domain ") [] (Rising elements) 0 worlds
    ++ (function_slots elements symbols ++ predicate_slots worlds elements symbols))

-- an entry for each slot
abbrev pub are_entries : List Place → List (List ℕ) → Bool
are_entries [] [] = true
are_entries (s ∷ ss) (e ∷ es) = is_entry s.form e && are_entries ss es
are_entries _ _ = false

abbrev pub entry_lines : List Place → List (List ℕ) → List (List ℕ)
entry_lines (s ∷ ss) (e ∷ es) = (s.front ++ entry_text s.form e) ∷ entry_lines ss es
entry_lines _ _ = []

-- ---- the text and the structure of the entries

abbrev pub head_of : Problem → ℕ → ℕ → List (List ℕ)
head_of P worlds elements = codes "leancop structure 1" ∷ (codes "logic " ++ setting_text P.setting) ∷ (codes "worlds " ++ decimal worlds) ∷ (codes "elements " ++ decimal elements) ∷ []

abbrev pub lines_of : Problem → ℕ → ℕ → List (List ℕ) → List (List ℕ)
lines_of P worlds elements es = head_of P worlds elements ++ (entry_lines (slots P.symbols worlds elements) es ++ codes "end" ∷ [])

abbrev pub function_count : List Symbol → ℕ
function_count [] = 0
function_count (s ∷ ss) = if is_function s.class then suc (function_count ss) else function_count ss

-- the first item, or nothing
abbrev pub first_of : List (List ℕ) → List ℕ
first_of [] = []
first_of (x ∷ xs) = x

-- the next table of functions for each function symbol, and the next rows, one for each world, for each predicate symbol
abbrev pub meanings_of : ℕ → List Symbol → List (List ℕ) → List (List ℕ) → List Meaning
meanings_of worlds [] fs rows = []
meanings_of worlds (s ∷ ss) fs rows = if is_function s.class then value_table (first_of fs) ∷ meanings_of worlds ss (drop 1 fs) rows else truth_tables (map (map is_one) (take worlds rows)) ∷ meanings_of worlds ss fs (drop worlds rows)

abbrev pub structure_of : List Symbol → ℕ → ℕ → List (List ℕ) → Structure
structure_of symbols worlds elements es = record {
  elements = elements;
  successors = take worlds es;
  domains = take worlds (drop worlds es);
  meanings = meanings_of worlds symbols (take (function_count symbols) (drop worlds (drop worlds es))) (drop (function_count symbols) (drop worlds (drop worlds es)));
}
