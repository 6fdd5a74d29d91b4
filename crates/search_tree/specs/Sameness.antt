-- Goals that the bindings make the same as one above them.
use Rattle.std.specs.Prelude.{◌≡◌, ◌≤◌, ℕ, List, Some, slice_get}
use Rattle.store_theory.specs.Stores.{Store}
use Rattle.store_theory.specs.Systems.{CellAtom}
use Rattle.search_theory.specs.Regular.{AreSame}
use Rattle.search_theory.specs.States.{CellGoal}

-- an atom above the goal is the same
abbrev pub IsRepeated : Store → CellGoal → Type 0
IsRepeated s x = (j : ℕ) × (a : CellAtom) × (slice_get x.path j ≡ Some a) × AreSame s x.literal a

-- so it is for a goal of the list, from the number n on
abbrev pub AnyRepeated : Store → ℕ → List CellGoal → Type 0
AnyRepeated s n xs = (i : ℕ) × (x : CellGoal) × (n ≤ i) × (slice_get xs i ≡ Some x) × IsRepeated s x
