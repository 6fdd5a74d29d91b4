use Rattle.derivation_text.proofs.Args.{no-label_and-arg}
use Rattle.formula_text.proofs.Passing.{error-passed}
use Rattle.derivation_text.proofs.step_reader.read_label_and_arg.Goals as goal

pub returns-in_err-arg-clause-none : goal.returns-in_err-arg-clause-none
returns-in_err-arg-clause-none c = λ e.
    no-label_and-arg c.args.problem.now.symbols c.args.text.now _ _ c.in_ok-label.ensures.ok (c.in_err-arg.ensures.none (error-passed c.from_residual-in_err-arg.result c.in_err-arg.field-0.0 _ c.from_residual-in_err-arg.ensures.1 e))
