use Rattle.std.proofs.Common.{◌≡◌, ◌++◌, drop, map}
use Rattle.formula_core.specs.FormulaView.{the_formula}
use Rattle.problem_build.specs.EqualityAxioms.{for_each}
use Rattle.problem_build.specs.Measuring.{congruence_of}
use Rattle.problem_build.proofs.axioms.push_congruences.Given as goal

abbrev pub invariant-loop-number : goal.invariant-loop-number
invariant-loop-number l =
    map the_formula l.axioms.items ++ for_each (congruence_of l.sort l.symbols) l.number (drop l.number l.symbols)
    ≡ map the_formula l.fn.axioms.items ++ for_each (congruence_of l.sort l.symbols) 0 l.symbols
