-- Built cells by their names.
use Rattle.std.specs.Prelude.{ℕ, List}
use Rattle.store_theory.specs.Stores.{Cell, fun_cell, eigen_cell, new_cell, string_cell}
use Rattle.term_store.specs.declared.cell.Content.{Content}
use Rattle.term_store.specs.declared.cell.Content.TheVariants as content
use Rattle.term_store.specs.declared.cell.Name.{Name}
use Rattle.term_store.specs.declared.cell.Name.TheVariants.{Fun, Eigen, New, Marks}

-- the built cell of this name with these parts
abbrev pub named_cell : Name → List ℕ → Cell
named_cell (Fun f) rs = fun_cell f.0 rs
named_cell (Eigen p) rs = eigen_cell p.0 rs
named_cell (New p) rs = new_cell p.0 rs
named_cell Marks rs = string_cell rs

-- the content of the built cell of this name with so many parts
abbrev pub named_content : Name → ℕ → Content
named_content (Fun f) n = content.Fun f n
named_content (Eigen p) n = content.Eigen p n
named_content (New p) n = content.New p n
named_content Marks n = content.Marks n
