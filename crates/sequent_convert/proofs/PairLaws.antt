-- Pairs of items are axioms, and stay so on a longer branch.
use Rattle.std.proofs.Common.{◌≡◌, ℕ, zero, suc, List, [], ◌∷◌, Option, Some, None, refl, slice_get}
use Rattle.conversion_theory.specs.Branches.{Item, entry_of_item, entries_of}
use Rattle.calculus.specs.Derivations.{Entry}
use Rattle.conversion_theory.specs.Numbering.{number_of}
use Rattle.conversion_theory.specs.Turns.{Name}

-- the items at places
abbrev pub option_entry : List Name → Option Item → Option Entry
option_entry names None = None
option_entry names (Some i) = Some (entry_of_item (number_of names) i)

pub got : (names : List Name) (items : List Item) (n : ℕ) → slice_get (entries_of (number_of names) items) n ≡ option_entry names (slice_get items n)
got names [] n = refl
got names (i ∷ is) zero = refl
got names (i ∷ is) (suc n) = got names is n
