-- Large terms are told apart by the places of their rows.
use Rattle.std.specs.Prelude.{◌≡◌, ⊤, ℕ, ◌-◌, ◌<◌, ◌≤◌, List, [], ◌∷◌, length, get_or}
use Rattle.calculus.specs.Syntax.{Term}
use Rattle.formula_text.specs.Rows.{row_of}
use Rattle.derivation_branch.specs.TableView.{the_value}
use Rattle.derivation_branch.specs.declared.substitution.Binding.{Binding}
use Rattle.formula_text.specs.declared.term_row.RowItem.{RowItem}

-- no row comes twice
abbrev pub AreRowsApart : List (List RowItem) → Type 0
AreRowsApart rows = (i j : ℕ) → i < length rows → j < length rows → get_or rows i [] ≡ get_or rows j [] → i ≡ j

-- the row of the term is the one of this number, counted from 1
pub record IsNumberOf (rows : List (List RowItem)) (n : ℕ) (t : Term) : Type 0 where
  pub first : 0 < n
  pub last : n ≤ length rows
  pub same : get_or rows (n - 1) [] ≡ row_of t

-- the number of a binding, if it has one, is that of its term
abbrev pub AreNumbered : List (List RowItem) → List Binding → Type 0
AreNumbered rows [] = ⊤
AreNumbered rows (b ∷ bs) = (0 < b.number → IsNumberOf rows b.number (the_value b.term)) × AreNumbered rows bs
