use Rattle.std.proofs.Common.{refl}
use Rattle.finite_model.proofs.HeadReading.{no-size}
use Rattle.finite_model.proofs.head.size_after.Goals as goal

pub returns-in_err-size-clause-none : goal.returns-in_err-size-clause-none
returns-in_err-size-clause-none c = λ _. no-size c.args.text.now c.args.from c.in_ok-line.end c.in_ok-line.line.now c.args.word.now c.in_ok-rest.rest.now c.in_ok-line.ensures.some c.in_ok-rest.ensures.some (c.in_err-size.ensures.none refl)
