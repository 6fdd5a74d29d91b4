use Rattle.std.proofs.Common.{arith}
use Rattle.finite_model.proofs.ShortLaws.{elements-written}
use Rattle.finite_model.proofs.judging.elements_before.Goals as goal

pub returns-clause-elements : goal.returns-clause-elements
returns-clause-elements c = elements-written c.in_ok-all.all.items c.put_elements.new.all c.in_ok-all.all.len (omega arith) c.put_elements.ensures.elements
