use Rattle.std.proofs.Common.{◌+◌, ◌*◌}
use Rattle.calculus.specs.Positions.{size}
use Rattle.formula_core.specs.FormulaView.{the_formula}
use Rattle.tableau_core.proofs.home.+home.Given as goal

-- The formula gets smaller; the shape comes after the modal part.

abbrev pub decreases-home_below : goal.decreases-home_below
decreases-home_below l = 2 * size (the_formula l.part.formula.now) + 1

abbrev pub decreases-home_shape : goal.decreases-home_shape
decreases-home_shape l = 2 * size (the_formula l.part.formula.now)
