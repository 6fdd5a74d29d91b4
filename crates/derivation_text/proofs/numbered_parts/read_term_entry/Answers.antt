use Rattle.std.proofs.Common.{refl}
use Rattle.derivation_text.proofs.NumberedArgs.{entry-space, no-entry}
use Rattle.formula_text.proofs.Passing.{error-passed}
use Rattle.derivation_text.proofs.numbered_parts.read_term_entry.Goals as goal

pub returns-in_default-rest_after-clause-none : goal.returns-in_default-rest_after-clause-none
returns-in_default-rest_after-clause-none c = λ _ n t k. c.in_default-rest_after.ensures.none refl _ (entry-space c.args.problem.now.symbols c.args.text.now _ _ c.in-Some.ensures.some n t k)

pub returns-in_err-row-clause-none : goal.returns-in_err-row-clause-none
returns-in_err-row-clause-none c = λ e.
    no-entry c.args.problem.now.symbols c.args.text.now _ _ _ c.in-Some.ensures.some c.in-Some-rest_after.ensures.some (c.in_err-row.ensures.none (error-passed c.from_residual.result c.in_err-row.field-0.0 _ c.from_residual.ensures.1 e))
