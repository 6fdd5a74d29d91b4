use Rattle.calculus.specs.Positions.{size}
use Rattle.formula_core.specs.FormulaView.{the_formula}
use Rattle.name_order.proofs.place.+add_places.Given as goal

abbrev pub decreases-add_places : goal.decreases-add_places
decreases-add_places l = size (the_formula l.whole.formula.now)
