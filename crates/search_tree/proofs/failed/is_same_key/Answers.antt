use Rattle.std.proofs.Common.{arith}
use Rattle.search_tree.proofs.FailedLaws.{same-all, same-next}
use Rattle.search_tree.proofs.failed.is_same_key.Goals as goal

pub loop-i-preserved : goal.loop-i-preserved
loop-i-preserved c = same-next c.args.a.now c.args.b.now c.loop-i.i c.part_of-x.result c.part_of-y.result c.part_of-x.ensures c.part_of-y.ensures (c.is_same_part.ensures c.if-not-is_same_part.false) c.loop-i.invariant

pub returns : goal.returns
returns c = λ t. same-all c.args.a.now c.args.b.now c.loop-i.i (omega arith) (omega arith) c.loop-i.invariant
