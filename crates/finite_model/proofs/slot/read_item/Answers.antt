use Rattle.std.proofs.Common.{◌-◌, refl, arith}
use Rattle.finite_model.proofs.NumberLaws.{item-there, no-number, no-space, other-number}
use Rattle.finite_model.proofs.slot.read_item.Goals as goal

pub returns-then-byte-ne32-clause-none : goal.returns-then-byte-ne32-clause-none
returns-then-byte-ne32-clause-none c = λ _. no-space c.args.text.now c.args.place c.args.most c.requires c.if-byte-ne32.true

pub returns-in_err-number-clause-none : goal.returns-in_err-number-clause-none
returns-in_err-number-clause-none c = λ _. no-number c.args.text.now c.args.place c.args.most (omega arith) (c.in_err-number.ensures.none refl)

pub returns-then-number-lt1-clause-none : goal.returns-then-number-lt1-clause-none
returns-then-number-lt1-clause-none c = λ _. other-number c.args.text.now c.args.place c.in_ok-number.end c.in_ok-number.number c.args.most (omega arith) c.in_ok-number.ensures.some (λ x k e. omega arith)

pub returns-then-number-greatest-clause-none : goal.returns-then-number-greatest-clause-none
returns-then-number-greatest-clause-none c = λ _. other-number c.args.text.now c.args.place c.in_ok-number.end c.in_ok-number.number c.args.most (omega arith) c.in_ok-number.ensures.some (λ x k e. omega arith)

pub returns-clause-item : goal.returns-clause-item
returns-clause-item c = item-there c.args.text.now c.args.place c.in_ok-number.end c.in_ok-number.number (c.in_ok-number.number - 1) c.args.most c.requires c.if-byte-ne32.false c.in_ok-number.ensures.some c.in_ok-number.ensures.within (omega arith)
