use Rattle.std.proofs.Common.{◌≡◌, ◌++◌, ◌≤◌, map}
use Rattle.formula_core.specs.FormulaView.{the_formula}
use Rattle.problem_build.specs.EqualityAxioms.{equations, left_variables, right_variables, variables}
use Rattle.problem_build.proofs.axioms.equations.Given as goal

abbrev pub invariant-loop-left : goal.invariant-loop-left
invariant-loop-left l =
    (l.left ≤ l.count)
    × (map the_formula l.made.items ++ equations l.symbols (variables l.count l.left) (variables 0 l.left)
    ≡ equations l.symbols (left_variables l.count) (right_variables l.count))

abbrev pub decreases-loop-left : goal.decreases-loop-left
decreases-loop-left l = l.left
