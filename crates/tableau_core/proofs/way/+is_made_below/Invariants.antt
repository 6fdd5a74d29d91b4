use Rattle.calculus.specs.Positions.{size}
use Rattle.formula_core.specs.FormulaView.{the_formula}
use Rattle.tableau_core.proofs.way.+is_made_below.Given as goal

-- The formula gets smaller.

abbrev pub decreases-is_made_below : goal.decreases-is_made_below
decreases-is_made_below l = size (the_formula l.part.formula.now)
