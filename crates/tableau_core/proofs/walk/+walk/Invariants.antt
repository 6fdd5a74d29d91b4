use Rattle.std.proofs.Common.{◌+◌, ◌*◌}
use Rattle.calculus.specs.Positions.{size}
use Rattle.formula_core.specs.FormulaView.{the_formula}
use Rattle.tableau_core.proofs.walk.+walk.Given as goal

-- The formula gets smaller; the modal part comes first, then the shape, then the components.

abbrev pub decreases-walk : goal.decreases-walk
decreases-walk l = 4 * size (the_formula l.a.formula.now) + 3

abbrev pub decreases-walk_nu : goal.decreases-walk_nu
decreases-walk_nu l = 4 * size (the_formula l.a.formula.now) + 2

abbrev pub decreases-walk_pi : goal.decreases-walk_pi
decreases-walk_pi l = 4 * size (the_formula l.a.formula.now) + 2

abbrev pub decreases-walk_shape : goal.decreases-walk_shape
decreases-walk_shape l = 4 * size (the_formula l.a.formula.now) + 1

abbrev pub decreases-walk_alpha : goal.decreases-walk_alpha
decreases-walk_alpha l = 4 * (size (the_formula l.a.formula.now) + size (the_formula l.b.formula.now)) + 4

abbrev pub decreases-walk_beta : goal.decreases-walk_beta
decreases-walk_beta l = 4 * (size (the_formula l.a.formula.now) + size (the_formula l.b.formula.now)) + 4

abbrev pub decreases-walk_gamma : goal.decreases-walk_gamma
decreases-walk_gamma l = 4 * size (the_formula l.a.formula.now) + 4

abbrev pub decreases-walk_delta : goal.decreases-walk_delta
decreases-walk_delta l = 4 * size (the_formula l.a.formula.now) + 4
