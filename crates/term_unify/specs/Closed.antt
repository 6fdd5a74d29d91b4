-- Cells that name no newer ones.
use Rattle.std.specs.Prelude.{◌≡◌, ◌<◌, ℕ, Some, slice_get}
use Rattle.store_theory.specs.Stores.{Cell, Store, parts_of}

-- cells whose numbers are below n name such cells alone
abbrev pub IsClosedBelow : ℕ → Store → Type 0
IsClosedBelow n s = (r k i : ℕ) (c : Cell) → r < n → slice_get s.cells r ≡ Some c → slice_get (parts_of c) i ≡ Some k → k < n
