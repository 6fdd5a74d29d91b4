-- What rows are compared and hashed by: their items.
use Rattle.std.specs.Prelude.{ℕ, List, Bool}
use Rattle.std.specs.Hash as fed
use Rattle.std.specs.Cmp.Lexicographic.{pointwise}
use Rattle.calculus.specs.Syntax.{Term}
use Rattle.formula_text.specs.ItemHash.{item_hashed}
use Rattle.formula_text.specs.Rows.{row_of}
use Rattle.formula_text.specs.contracts.term_row.RowItemPartialEq.TheImpl.{eq-value}

abbrev pub row_hashed : Term → List (List ℕ)
row_hashed t = fed.slice item_hashed (row_of t)

abbrev pub same_row : Term → Term → Bool
same_row t u = pointwise eq-value.it (row_of t) (row_of u)
