use Rattle.std.proofs.Common.{◌≡◌, ◌+◌, ◌*◌, ◌++◌, drop}
use Rattle.calculus.specs.Clauses.{all_joined}
use Rattle.calculus.specs.Positions.{size}
use Rattle.formula_core.specs.FormulaView.{the_formula}
use Rattle.matrix_build.proofs.selections.+add_selections.Given as goal

abbrev pub decreases-add_selections : goal.decreases-add_selections
decreases-add_selections l = 2 * size (the_formula l.f.now)

abbrev pub decreases-add_alpha : goal.decreases-add_alpha
decreases-add_alpha l = 2 * (size (the_formula l.a.formula.now) + size (the_formula l.b.formula.now)) + 1

abbrev pub decreases-add_beta : goal.decreases-add_beta
decreases-add_beta l = 2 * (size (the_formula l.a.formula.now) + size (the_formula l.b.formula.now)) + 1

abbrev pub invariant-add_beta-loop-sides : goal.invariant-add_beta-loop-sides
invariant-add_beta-loop-sides l = l.all.items ++ all_joined (drop l.sides-index l.sides-items) l.second.items ≡ l.initial.all.items ++ all_joined l.sides-items l.second.items
