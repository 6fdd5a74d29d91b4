use Rattle.std.proofs.Common.{refl}
use Rattle.derivation_text.proofs.NumberedArgs.{no-new_and-arg, no-zero_and-arg, none-new}
use Rattle.derivation_text.proofs.numbered_parts.read_new_and_arg.Goals as goal

pub returns-in_err-number-clause-none : goal.returns-in_err-number-clause-none
returns-in_err-number-clause-none c = λ _. none-new c.args.text.now (c.in_err-number.ensures.none refl)

pub returns-then-number-eq0-clause-none : goal.returns-then-number-eq0-clause-none
returns-then-number-eq0-clause-none c = λ _. no-zero_and-arg c.args.text.now _ _ c.in_ok-number.ensures.some c.if-number-eq0.true

pub returns-in_err-arg-clause-none : goal.returns-in_err-arg-clause-none
returns-in_err-arg-clause-none c = λ _. no-new_and-arg c.args.text.now _ _ c.in_ok-number.ensures.some (c.in_err-arg.ensures.none refl)
