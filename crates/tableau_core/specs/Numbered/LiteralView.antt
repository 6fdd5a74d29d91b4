-- The ground literals of the calculus that those of the program stand for, by the lists of a table.
use Rattle.std.specs.Prelude.{List}
use Rattle.calculus.specs.Ground as tree
use Rattle.calculus.specs.Lists.{g_terms_tree}
use Rattle.formula_core.specs.GroundLists.{GroundList, the_terms, the_marks}
use Rattle.tableau_core.specs.declared.literal.GroundLiteral.{GroundLiteral}

abbrev pub the_literal : List GroundList → GroundLiteral → tree.GroundLiteral
the_literal ls x = record { sign = x.sign; symbol = x.symbol.0; args = g_terms_tree (the_terms ls x.args); label = the_marks ls x.label }
