-- What the calls that look at a cell tell of it.
use Rattle.std.specs.Prelude.{◌≡◌, ℕ, List, length, None, Some, slice_get}
use Rattle.store_theory.specs.Stores.{Cell, variable, fun_cell, eigen_cell, new_cell, string_cell, Store}
use Rattle.term_store.specs.declared.cell.Content.{Content}
use Rattle.term_store.specs.declared.cell.Content.TheVariants.{Open, Bound, Fun, Eigen, New, Marks}
use Rattle.term_store.specs.declared.cell.Head.{Head}
use Rattle.term_store.specs.declared.cell.Head.TheVariants as head

-- the kind and the name of a cell
abbrev pub head_of : Cell → Head
head_of (variable sort b) = head.Open sort
head_of (fun_cell f rs) = head.Fun (record { 0 = f })
head_of (eigen_cell p rs) = head.Eigen (record { 0 = p })
head_of (new_cell p rs) = head.New (record { 0 = p })
head_of (string_cell rs) = head.Marks

-- the kind and the name of a cell with this content
abbrev pub the_head : Content → Head
the_head (Open sort) = head.Open sort
the_head (Bound sort r) = head.Open sort
the_head (Fun f n) = head.Fun f
the_head (Eigen p n) = head.Eigen p
the_head (New p n) = head.New p
the_head (Marks n) = head.Marks

-- the content of a cell, but for its parts
abbrev pub ShowsCell : Content → Cell → Type 0
ShowsCell (Open sort) c = c ≡ variable sort None
ShowsCell (Bound sort r) c = c ≡ variable sort (Some r.0)
ShowsCell (Fun f n) c = (rs : List ℕ) × (c ≡ fun_cell f.0 rs) × (length rs ≡ n)
ShowsCell (Eigen p n) c = (rs : List ℕ) × (c ≡ eigen_cell p.0 rs) × (length rs ≡ n)
ShowsCell (New p n) c = (rs : List ℕ) × (c ≡ new_cell p.0 rs) × (length rs ≡ n)
ShowsCell (Marks n) c = (rs : List ℕ) × (c ≡ string_cell rs) × (length rs ≡ n)

abbrev pub Shows : Store → ℕ → Content → Type 0
Shows s r k = (c : Cell) × (slice_get s.cells r ≡ Some c) × ShowsCell k c
