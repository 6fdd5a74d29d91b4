-- Pairs of items that make an axiom.
use Rattle.std.specs.Prelude.{ℕ, List, Bool, false, Option, Some, slice_get}
use Rattle.conversion_theory.specs.Branches.{Item, entry_of_item}
use Rattle.calculus.specs.Calculus.{connects}
use Rattle.conversion_theory.specs.Numbering.{number_of}
use Rattle.conversion_theory.specs.Turns.{Name}

abbrev pub are_connected : List Name → Option Item → Option Item → Bool
are_connected names (Some i) (Some j) = connects (entry_of_item (number_of names) i) (entry_of_item (number_of names) j)
are_connected names _ _ = false

-- the items at two places make an axiom
abbrev pub connected_at : List Name → List Item → ℕ → ℕ → Bool
connected_at names items j k = are_connected names (slice_get items j) (slice_get items k)
