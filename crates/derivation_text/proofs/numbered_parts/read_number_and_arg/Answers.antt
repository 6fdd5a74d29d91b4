use Rattle.std.proofs.Common.{refl}
use Rattle.derivation_text.proofs.NumberedArgs.{no-number_and-arg, none-number}
use Rattle.derivation_text.proofs.numbered_parts.read_number_and_arg.Goals as goal

pub returns-in_err-number-clause-none : goal.returns-in_err-number-clause-none
returns-in_err-number-clause-none c = λ _. none-number c.args.text.now (c.in_err-number.ensures.none refl)

pub returns-in_err-arg-clause-none : goal.returns-in_err-arg-clause-none
returns-in_err-arg-clause-none c = λ _. no-number_and-arg c.args.text.now _ _ c.in_ok-number.ensures.some (c.in_err-arg.ensures.none refl)
