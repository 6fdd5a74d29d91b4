use Rattle.std.proofs.Common.{ltb-true, ◌^◌, refl}
use Rattle.formula_text.proofs.Numbers.{digits-of_number}
use Rattle.formula_text.proofs.scan.read_number.Goals as goal

pub returns-in-None-clause-none : goal.returns-in-None-clause-none
returns-in-None-clause-none c = λ _ n to h. c.in-None.ensures.none refl n (ltb-true n (2 ^ 32) h.small) (digits-of_number c.args.text.now c.rest_of-rest.result.now c.args.from to n c.count_digits-count.result c.rest_of-rest.ensures c.count_digits-count.ensures h)
