use Rattle.std.proofs.Common.{arith}
use Rattle.sequent_convert.specs.ByNumber.NodeView.{the_node}
use Rattle.sequent_convert.proofs.ByNumber.NodeLaws.{node-get}
use Rattle.sequent_convert.proofs.nodes.find.Goals as goal

pub returns-then-works_on : goal.returns-then-works_on
returns-then-works_on c = (the_node c.args.table.now c.index-nodes-hint.result, node-get c.args.table.now c.args.nodes.now c.args.hint c.index-nodes-hint.result (omega arith) c.index-nodes-hint.is, c.works_on.ensures.0 c.if-works_on.true)
