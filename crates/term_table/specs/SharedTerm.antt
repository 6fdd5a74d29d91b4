-- The term that one in a row or over a table stands for.
use Rattle.calculus.specs.Syntax.{Term}
use Rattle.term_table.specs.Table.{the_table_term}
use Rattle.term_table.specs.declared.shared_term.SharedTerm as shared
use Rattle.term_table.specs.declared.shared_term.SharedTerm.TheVariants.{Row, Table}

abbrev pub the_shared_term : shared.SharedTerm → Term
the_shared_term (Row row) = row
the_shared_term (Table table term) = the_table_term table.value term
