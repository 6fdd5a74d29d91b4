use Rattle.std.proofs.Common.{arith, refl}
use Rattle.sequent_convert.proofs.ByNumber.NodeLaws.{front_differs, front_whole}
use Rattle.sequent_convert.proofs.nodes.are_taken.Goals as goal

pub returns-then-not-is_same_value : goal.returns-then-not-is_same_value
returns-then-not-is_same_value c = front_differs c.args.table.now c.args.taken.now c.args.values.now c.loop-i.i _ _ _ _ c.is_same_value.result c.if-not-is_same_value.true c.is_same_value.ensures c.loop-i-test.true (omega arith) refl refl

pub returns : goal.returns
returns c = front_whole c.args.table.now c.args.taken.now c.args.values.now c.loop-i.i (omega arith) c.loop-i.invariant
