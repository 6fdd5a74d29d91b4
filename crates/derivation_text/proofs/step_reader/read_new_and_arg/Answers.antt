use Rattle.derivation_text.proofs.Args.{no-name_and-arg, no-zero_and-arg}
use Rattle.formula_text.proofs.Passing.{error-passed}
use Rattle.derivation_text.proofs.step_reader.read_new_and_arg.Goals as goal

pub returns-then-n-eq0-clause-none : goal.returns-then-n-eq0-clause-none
returns-then-n-eq0-clause-none c = λ _. no-zero_and-arg c.args.problem.now.symbols c.args.text.now _ _ c.in-Some.ensures.some c.if-n-eq0.true

pub returns-in_err-arg-clause-none : goal.returns-in_err-arg-clause-none
returns-in_err-arg-clause-none c = λ e.
    no-name_and-arg c.args.problem.now.symbols c.args.text.now _ _ c.in-Some.ensures.some (c.in_err-arg.ensures.none (error-passed c.from_residual.result c.in_err-arg.field-0.0 _ c.from_residual.ensures.1 e))
