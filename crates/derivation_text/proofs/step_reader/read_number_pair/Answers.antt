use Rattle.std.proofs.Common.{refl, decimal}
use Rattle.derivation_text.proofs.Args.{no-pair, pair-space}
use Rattle.derivation_text.proofs.step_reader.read_number_pair.Goals as goal

pub returns-in_err-rest-clause-none : goal.returns-in_err-rest-clause-none
returns-in_err-rest-clause-none c = λ _ n k h. c.in_err-rest.ensures.none refl (decimal k) (pair-space c.args.text.now _ _ c.in_ok-given.ensures.some n k h)

pub returns-in_err-shown-clause-none : goal.returns-in_err-shown-clause-none
returns-in_err-shown-clause-none c = λ _. no-pair c.args.text.now _ _ _ c.in_ok-given.ensures.some c.in_ok-rest.ensures.some (c.in_err-shown.ensures.none refl)
