-- What the search keeps of its own cells: they are built right, and their variables stand for terms, and for strings where there are labels.
use Rattle.std.specs.Prelude.{◌≡◌, ◌≤◌, ℕ, Bool, true, false, Some, slice_get, IsTrue}
use Rattle.calculus.specs.declared.sort.Sort.TheVariants.{TermSort, MarkSort, StringSort}
use Rattle.calculus.specs.Space.{has_labels}
use Rattle.store_theory.specs.Stores.{Cell, Store, eigen_cell, fun_cell, new_cell, string_cell, variable}
use Rattle.calculus.specs.Syntax.{Problem}
use Rattle.search_theory.specs.LabelledCells.{AreLabelled}

-- a variable of the search, or a name. Strings are built by solving alone, when the search at the list is over
abbrev pub is_search_cell : Problem → Cell → Bool
is_search_cell P (variable TermSort b) = true
is_search_cell P (variable MarkSort b) = false
is_search_cell P (variable StringSort b) = has_labels P.setting.logic
is_search_cell P (fun_cell f rs) = true
is_search_cell P (eigen_cell p rs) = true
is_search_cell P (new_cell p rs) = true
is_search_cell P (string_cell rs) = false

-- the cells from the number `base` on are the search's own
pub record AreOwn (P : Problem) (base : ℕ) (s : Store) : Type 0 where
  pub labelled : AreLabelled P (λ r. base ≤ r) s
  pub cells : (r : ℕ) (c : Cell) → base ≤ r → slice_get s.cells r ≡ Some c → IsTrue (is_search_cell P c)
