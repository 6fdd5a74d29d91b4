use Rattle.std.proofs.Common.{◌+◌, ◌*◌}
use Rattle.calculus.specs.Positions.{size}
use Rattle.formula_core.specs.FormulaView.{the_formula}
use Rattle.matrix_build.proofs.walk.Plan.+add_part.Given as goal

abbrev pub decreases-add_part : goal.decreases-add_part
decreases-add_part l = 3 * size (the_formula l.f.now) + 1

abbrev pub decreases-add_body : goal.decreases-add_body
decreases-add_body l = 3 * size (the_formula l.f.now)

abbrev pub decreases-add_alpha : goal.decreases-add_alpha
decreases-add_alpha l = 3 * (size (the_formula l.a.formula.now) + size (the_formula l.b.formula.now)) + 2

abbrev pub decreases-add_beta : goal.decreases-add_beta
decreases-add_beta l = 3 * (size (the_formula l.a.formula.now) + size (the_formula l.b.formula.now)) + 2

abbrev pub decreases-add_gamma : goal.decreases-add_gamma
decreases-add_gamma l = 3 * size (the_formula l.a.formula.now) + 2

abbrev pub decreases-add_delta : goal.decreases-add_delta
decreases-add_delta l = 3 * size (the_formula l.a.formula.now) + 2
