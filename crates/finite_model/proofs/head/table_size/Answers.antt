use Rattle.std.proofs.Common.{◌^◌, ◌∙◌, ap, arith}
use Rattle.finite_model.proofs.SizeLaws.{size-begun, size-fits, size-large, size-next, size-one}
use Rattle.finite_model.proofs.head.table_size.Goals as goal

pub returns-then-elements-eq1-clause-some : goal.returns-then-elements-eq1-clause-some
returns-then-elements-eq1-clause-some c = size-one c.args.elements c.args.arity c.if-elements-eq1.true

pub loop-argument-init : goal.loop-argument-init
loop-argument-init c = record { size = size-begun c.args.elements; most = omega arith }

pub overflow_mul-size : goal.overflow_mul-size
overflow_mul-size c = omega (arith, size-fits c.loop-argument.size c.args.elements c.loop-argument.invariant.most (omega arith))

pub loop-argument-preserved : goal.loop-argument-preserved
loop-argument-preserved c = record { size = size-next c.loop-argument.size c.args.elements c.loop-argument._argument c.loop-argument.invariant.size; most = omega arith }

pub returns-then-size-most-clause-none : goal.returns-then-size-most-clause-none
returns-then-size-most-clause-none c = λ _. size-large c.loop-argument.size c.args.elements c.loop-argument._argument c.args.arity 1000000 c.requires c.loop-argument-test.true c.loop-argument.invariant.size (omega arith)

pub returns-clause-some : goal.returns-clause-some
returns-clause-some c = c.loop-argument.invariant.size ∙ ap (λ k. c.args.elements ^ k) (omega arith)

pub returns-clause-most : goal.returns-clause-most
returns-clause-most c = c.loop-argument.invariant.most
