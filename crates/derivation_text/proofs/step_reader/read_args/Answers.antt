use Rattle.derivation_text.proofs.Args.{no-args_to}
use Rattle.formula_text.proofs.Passing.{error-passed}
use Rattle.derivation_text.proofs.step_reader.read_args.Goals as goal

pub returns-in_err-label-clause-none : goal.returns-in_err-label-clause-none
returns-in_err-label-clause-none c = λ e.
    no-args_to c.args.problem.now.symbols c.args.text.now _ c.in-Some.ensures.some (c.in_err-label.ensures.none (error-passed c.from_residual.result c.in_err-label.field-0.0 _ c.from_residual.ensures.1 e))
