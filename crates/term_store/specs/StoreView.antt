-- The store of the calculus that the lists of the program stand for.
use Rattle.std.specs.Prelude.{◌≡◌, ◌≤◌, ◌<◌, ℕ, ◌+◌, List, [], ◌∷◌, length, map, take, drop, Some, None, IsTrue}
use Rattle.store_theory.specs.Stores.{Cell, variable, fun_cell, eigen_cell, new_cell, string_cell, Store, TrailMark, is_store}
use Rattle.store_theory.specs.Bindings.{HasRank}
use Rattle.term_store.specs.declared.cell.Content.{Content}
use Rattle.term_store.specs.declared.cell.Content.TheVariants.{Open, Bound, Fun, Eigen, New, Marks}
use Rattle.term_store.specs.declared.cell.Slot.{Slot}
use Rattle.term_store.specs.declared.cell.TrailMark.{TrailMark as ProgramMark}

abbrev pub the_mark : ProgramMark → TrailMark
the_mark m = record { cells = m.cells; entries = m.entries }

-- the cell, where its parts begin at this place of the list of parts
abbrev pub the_cell_at : List ℕ → ℕ → Content → Cell
the_cell_at parts start (Open sort) = variable sort None
the_cell_at parts start (Bound sort r) = variable sort (Some r.0)
the_cell_at parts start (Fun f n) = fun_cell f.0 (take n (drop start parts))
the_cell_at parts start (Eigen p n) = eigen_cell p.0 (take n (drop start parts))
the_cell_at parts start (New p n) = new_cell p.0 (take n (drop start parts))
the_cell_at parts start (Marks n) = string_cell (take n (drop start parts))

abbrev pub the_cell : List ℕ → Slot → Cell
the_cell parts s = the_cell_at parts s.start s.content

abbrev pub the_store : List Slot → List ℕ → List ℕ → Store
the_store slots parts trail = record { cells = map (the_cell parts) slots; trail = trail }

abbrev pub part_count : Content → ℕ
part_count (Open sort) = 0
part_count (Bound sort r) = 0
part_count (Fun f n) = n
part_count (Eigen p n) = n
part_count (New p n) = n
part_count (Marks n) = n

-- the parts of each cell begin where those of the cell before it end
abbrev pub IsLaid : ℕ → List Slot → ℕ → Type 0
IsLaid start [] end = start ≡ end
IsLaid start (s ∷ ss) end = (s.start ≡ start) × IsLaid (start + part_count s.content) ss end

pub record IsWell (slots : List Slot) (parts trail : List ℕ) : Type 0 where
  pub laid : IsLaid 0 slots (length parts)
  pub fits : IsTrue (is_store (the_store slots parts trail))
  pub rank : HasRank (the_store slots parts trail)
  pub places : length slots ≤ 4294967296
  pub part_places : length parts < 4294967296
