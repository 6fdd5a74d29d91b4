use Rattle.std.proofs.Common.{◌∙◌, ◌≤◌, ap, map, subst, sym}
use Rattle.calculus.specs.Positions.{size}
use Rattle.calculus.specs.Syntax as tree
use Rattle.formula_core.specs.FormulaView.{the_formula}
use Rattle.logic_rules.proofs.ProblemFacts.{kept}
use Rattle.tableau_core.proofs.FittingLaws.{few-positions}
use Rattle.matrix_build.specs.MatrixView.{the_clause}
use Rattle.matrix_build.proofs.MatrixLaws.{matrix-built}
use Rattle.matrix_build.proofs.matrix.build_matrix.Goals as goal

pub clauses_of-requires : goal.clauses_of-requires
clauses_of-requires c = subst (λ f. size f ≤ 4000000) (sym c.formula-formula.ensures.formula) (few-positions c.args.problem.now c.formula-formula.ensures.well)

pub returns-clause-matrix : goal.returns-clause-matrix
returns-clause-matrix c = matrix-built c.args.problem.now c.logic.result (the_formula c.formula-formula.result.now) (map the_clause c.in_ok-clauses.clauses.items) (c.logic.ensures ∙ ap (λ (s : tree.Setting). s.logic) c.setting.ensures.setting) c.formula-formula.ensures.formula (kept c.args.problem.now c.formula-formula.ensures.well).formula c.in_ok-clauses.ensures.templates
