-- The systems of the calculus that those of the program stand for.
use Rattle.store_theory.specs.Systems as tree
use Rattle.term_store.specs.ClauseView.{the_atom}
use Rattle.term_store.specs.declared.clause.CellAtom.{CellAtom}
use Rattle.term_store.specs.declared.system.Equation.{Equation}
use Rattle.term_store.specs.declared.system.System.{System}

abbrev pub the_equation : Equation → tree.Equation
the_equation e = record { left = e.left; right = e.right }

abbrev pub the_pair : CellAtom × CellAtom → tree.Pair
the_pair p = record { upper = the_atom p.0; lower = the_atom p.1 }

abbrev pub the_system : System → tree.System
the_system y = record { equations = y.equations; strings = y.strings; pis = y.pis; gammas = y.gammas; pairs = y.pairs }
