use Rattle.std.proofs.Common.{◌∙◌, ◌++◌, [], ap}
use Rattle.calculus.specs.Clauses.{selections}
use Rattle.formula_core.specs.FormulaView.{the_formula}
use Rattle.matrix_build.specs.Behind.{behind}
use Rattle.matrix_build.proofs.Behind.{behind-none}
use Rattle.matrix_build.proofs.selections.selections.Goals as goal

pub returns : goal.returns
returns c =
    let xs = selections (the_formula c.args.f.now) c.args.sign in
    c.in_ok-add_selections.ensures ∙ ap (λ cs. cs ++ behind [] xs) c.new-all.ensures.items ∙ behind-none xs
