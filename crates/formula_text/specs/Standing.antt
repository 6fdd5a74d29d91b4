-- The terms of a stack, the last one first.
use Rattle.std.specs.Prelude.{List, map, reverse}
use Rattle.calculus.specs.Syntax as tree
use Rattle.formula_core.specs.TermView.{the_term}
use Rattle.formula_core.specs.declared.term.Term.{Term}

abbrev pub standing : List Term → List tree.Term
standing xs = reverse (map the_term xs)
