use Rattle.std.proofs.Common.{◌+◌, length}
use Rattle.calculus.specs.Text.{name_text}
use Rattle.formula_text.proofs.Passing.{error-passed}
use Rattle.tableau_text.proofs.TokenSteps.{name-at}
use Rattle.tableau_text.proofs.token.read_function.Goals as goal

pub returns-in_err-name-clause-none : goal.returns-in_err-name-clause-none
returns-in_err-name-clause-none c = λ e name rest h.
    c.in_err-name.ensures.none (error-passed c.from_residual.result c.in_err-name.field-0.0 _ c.from_residual.ensures.1 e) (0 + length (name_text name)) name (name-at c.args.text.now name rest h)
