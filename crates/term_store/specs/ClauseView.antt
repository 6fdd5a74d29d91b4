-- The clauses of the calculus that those of the program stand for.
use Rattle.store_theory.specs.Patterns as tree
use Rattle.store_theory.specs.Stores as cells
use Rattle.store_theory.specs.Systems as cell
use Rattle.term_store.specs.PatternView.{the_pattern}
use Rattle.term_store.specs.declared.clause.CellAtom.{CellAtom}
use Rattle.term_store.specs.declared.clause.GammaUse.{GammaUse}
use Rattle.term_store.specs.declared.clause.PatternAtom.{PatternAtom}
use Rattle.term_store.specs.declared.clause.PatternGamma.{PatternGamma}

abbrev pub the_atom : CellAtom → cell.CellAtom
the_atom a = record { sign = a.sign; symbol = a.symbol.0; args = a.args; label = a.label }

abbrev pub the_gamma : GammaUse → cells.GammaCell
the_gamma g = record { term = g.term.0; label = g.label }

abbrev pub the_pattern_atom : PatternAtom → tree.PatternAtom
the_pattern_atom a = record { sign = a.sign; symbol = a.symbol.0; args = a.args; label = a.label }

abbrev pub the_pattern_gamma : PatternGamma → tree.PatternGamma
the_pattern_gamma g = record { term = the_pattern g.term; label = g.label }
