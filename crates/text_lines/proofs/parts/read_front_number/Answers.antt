use Rattle.std.proofs.Common.{◌+◌, length, refl, decimal}
use Rattle.text_lines.proofs.PartLaws.{number-at}
use Rattle.text_lines.proofs.parts.read_front_number.Goals as goal

pub returns-in_err-n-clause-none : goal.returns-in_err-n-clause-none
returns-in_err-n-clause-none c = λ _ n rest h. c.in_err-n.ensures.none refl n (0 + length (decimal n)) (number-at c.args.text.now n rest h)
