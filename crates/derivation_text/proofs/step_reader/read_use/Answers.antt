use Rattle.derivation_text.proofs.Args.{no-use}
use Rattle.formula_text.proofs.Passing.{error-passed}
use Rattle.derivation_text.proofs.step_reader.read_use.Goals as goal

pub returns-in_err-modal-clause-none : goal.returns-in_err-modal-clause-none
returns-in_err-modal-clause-none c = λ e.
    no-use c.args.problem.now.symbols c.args.text.now _ _ c.in-Some.ensures.some (c.in_err-modal.ensures.none (error-passed c.from_residual.result c.in_err-modal.field-0.0 _ c.from_residual.ensures.1 e))
