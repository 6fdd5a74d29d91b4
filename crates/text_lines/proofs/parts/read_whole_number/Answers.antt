use Rattle.std.proofs.Common.{[], refl}
use Rattle.text_lines.proofs.PartLaws.{not-empty, number-front, number-rest}
use Rattle.text_lines.proofs.parts.read_whole_number.Goals as goal

pub returns-in_err-n-clause-none : goal.returns-in_err-n-clause-none
returns-in_err-n-clause-none c = λ _ n h. c.in_err-n.ensures.none refl n [] (number-front c.args.text.now n h)

pub returns-else-is_empty-clause-none : goal.returns-else-is_empty-clause-none
returns-else-is_empty-clause-none c = λ _ n h. not-empty c.in_ok-n.rest.now _ c.is_empty.ensures c.if-is_empty.false (number-rest c.args.text.now _ _ c.in_ok-n.ensures.some n h)
