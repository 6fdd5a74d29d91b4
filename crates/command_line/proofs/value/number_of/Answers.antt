use Rattle.std.proofs.Common.{arith, sym}
use Rattle.command_line.proofs.NumberLaws.{number-outside, number-some}
use Rattle.command_line.proofs.value.number_of.Goals as goal

pub returns-in-Some-clause-number : goal.returns-in-Some-clause-number
returns-in-Some-clause-number c =
    sym (number-some c.args.most c.in-Some.number c.args.value.now c.in-Some.ensures.small c.in-Some.ensures.some c.if-number-ge1.true c.if-number-most.true)

pub returns-in_default-clause-number : goal.returns-in_default-clause-number
returns-in_default-clause-number c =
    sym (number-outside c.args.most c.in-Some.number c.args.value.now c.ranges.most.fits c.in-Some.ensures.small c.in-Some.ensures.some (λ from to. omega (arith, to, c.if-number-most.false)))

pub returns-in_default-2-clause-number : goal.returns-in_default-2-clause-number
returns-in_default-2-clause-number c =
    sym (number-outside c.args.most c.in-Some.number c.args.value.now c.ranges.most.fits c.in-Some.ensures.small c.in-Some.ensures.some (λ from to. omega (arith, from, c.if-number-ge1.false)))
