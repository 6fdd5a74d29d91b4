-- The rows of the terms on a stack, the last one first.
use Rattle.std.specs.Prelude.{List, [], ◌∷◌, ◌++◌}
use Rattle.calculus.specs.Syntax.{Term}
use Rattle.formula_text.specs.Rows.{row_of}
use Rattle.formula_text.specs.declared.term_row.RowItem.{RowItem}
use Rattle.term_table.specs.Table.{the_table_term}
use Rattle.term_table.specs.declared.table.TableTerm.{TableTerm}

unfoldable pub rows_left : List (List Term) → List TableTerm → List RowItem
rows_left ls [] = []
rows_left ls (x ∷ xs) = rows_left ls xs ++ row_of (the_table_term ls x)
