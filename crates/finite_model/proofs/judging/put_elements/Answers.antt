use Rattle.std.proofs.Common.{arith}
use Rattle.finite_model.proofs.ShortLaws.{elements-told}
use Rattle.finite_model.proofs.judging.put_elements.Goals as goal

pub returns-clause-elements : goal.returns-clause-elements
returns-clause-elements c = let long = c.loop-i.invariant.1 in elements-told c.loop-i.all (omega (arith, long)) (λ k lt. c.loop-i.invariant.2 k (omega (arith, lt)))
