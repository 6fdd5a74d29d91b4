-- The template and the copied clause of the calculus.
use Rattle.store_theory.specs.Patterns as tree
use Rattle.term_store.specs.declared.clause.Template.{Template}
use Rattle.term_store.specs.declared.clause.CopiedClause.{CopiedClause}

abbrev pub the_template : Template → tree.Template
the_template t = record { literals = t.literals; strings = t.strings; pis = t.pis; gammas = t.gammas; sorts = t.sorts }

abbrev pub the_clause : CopiedClause → tree.CopiedClause
the_clause c = record { literals = c.literals; strings = c.strings; pis = c.pis; gammas = c.gammas }
