use Rattle.std.proofs.Common.{◌≡◌, ◌++◌, length}
use Rattle.formula_text.specs.Rows.{row_of}
use Rattle.term_table.specs.Table.{the_table_term}
use Rattle.term_table.specs.Walk.{rows_left}
use Rattle.term_table.proofs.walk.items_of.Given as goal

abbrev pub invariant-loop-next : goal.invariant-loop-next
invariant-loop-next l = l.items.items ++ rows_left l.table l.stack.items ≡ row_of (the_table_term l.table l.fn.term)

abbrev pub decreases-loop-next : goal.decreases-loop-next
decreases-loop-next l = length (rows_left l.table l.stack.items)
