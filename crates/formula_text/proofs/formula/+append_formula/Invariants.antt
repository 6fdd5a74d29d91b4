use Rattle.std.proofs.Common.{◌+◌, ◌*◌}
use Rattle.calculus.specs.Measures.{node_count}
use Rattle.formula_core.specs.FormulaView.{the_formula}
use Rattle.formula_text.proofs.formula.+append_formula.Given as goal

abbrev pub decreases-append_formula : goal.decreases-append_formula
decreases-append_formula l = 2 * node_count (the_formula l.f.now)

abbrev pub decreases-append_joined : goal.decreases-append_joined
decreases-append_joined l = 2 * (node_count (the_formula l.left.now) + node_count (the_formula l.right.now)) + 1
