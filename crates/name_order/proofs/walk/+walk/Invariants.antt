use Rattle.std.proofs.Common.{◌+◌}
use Rattle.calculus.specs.Positions.{size}
use Rattle.formula_core.specs.FormulaView.{the_formula}
use Rattle.name_order.proofs.walk.+walk.Given as goal

abbrev pub decreases-walk : goal.decreases-walk
decreases-walk l = size (the_formula l.whole.formula.now)

abbrev pub decreases-walk_alpha : goal.decreases-walk_alpha
decreases-walk_alpha l = size (the_formula l.a.formula.now) + size (the_formula l.b.formula.now)

abbrev pub decreases-walk_beta : goal.decreases-walk_beta
decreases-walk_beta l = size (the_formula l.a.formula.now) + size (the_formula l.b.formula.now)
