-- What contracts see of a store of the program.
use Rattle.std.specs.Prelude.{ℕ, ◌-◌, ◌≤◌, min, length}
use Rattle.store_theory.specs.Stores.{Store}

-- a store, and how many cells and trail entries it has memory for
pub record TermStore : Type 0 where
  pub store : Store
  pub cell_room : ℕ
  pub trail_room : ℕ

-- how many cells can be added or bound before it needs memory
abbrev pub spare : TermStore → ℕ
spare s = min (s.cell_room - length s.store.cells) (s.trail_room - length s.store.trail)

-- no memory is given back
abbrev pub KeepsRoom : TermStore → TermStore → Type 0
KeepsRoom before after = (before.cell_room ≤ after.cell_room) × (before.trail_room ≤ after.trail_room)
