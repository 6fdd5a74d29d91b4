use Rattle.std.proofs.Common.{refl}
use Rattle.derivation_text.proofs.Args.{no-eigen, eigen-space}
use Rattle.formula_text.proofs.Passing.{error-passed}
use Rattle.derivation_text.proofs.name_line_reader.read_eigen.Goals as goal

pub returns-in_default-rest_after-clause-none : goal.returns-in_default-rest_after-clause-none
returns-in_default-rest_after-clause-none c = λ _ n w k. c.in_default-rest_after.ensures.none refl _ (eigen-space c.args.text.now _ _ c.in-Some.ensures.some n w k)

pub returns-in_err-home-clause-none : goal.returns-in_err-home-clause-none
returns-in_err-home-clause-none c = λ e.
    no-eigen c.args.text.now _ _ _ c.in-Some.ensures.some c.in-Some-rest_after.ensures.some (c.in_err-home.ensures.none (error-passed c.from_residual.result c.in_err-home.field-0.0 _ c.from_residual.ensures.1 e))
