use Rattle.std.proofs.Common.{sym, ◌∙◌}
use Rattle.std.proofs.lemmas.Bool.{false≢true}
use Rattle.name_order.specs.ByNumber.TurnView.{the_turn}
use Rattle.sequent_convert.specs.ByNumber.NodeView.{the_node}
use Rattle.sequent_convert.specs.Working.{IsOn}
use Rattle.sequent_convert.proofs.ByNumber.NodeLaws.{node-get, none-step, none-all}
use Rattle.sequent_convert.proofs.nodes.seek.Goals as goal

pub returns-then-works_on : goal.returns-then-works_on
returns-then-works_on c = (the_node c.args.table.now c.index-nodes-i.result, node-get c.args.table.now c.args.nodes.now c.loop-i.i c.index-nodes-i.result c.loop-i-test.true c.index-nodes-i.is, c.works_on.ensures.0 c.if-works_on.true)

pub loop-i-preserved : goal.loop-i-preserved
loop-i-preserved c = none-step c.args.table.now c.args.nodes.now c.loop-i.i c.index-nodes-i.result (IsOn (the_turn c.args.table.now c.args.turn)) c.index-nodes-i.is c.loop-i.invariant (λ q. false≢true (sym c.if-works_on.false ∙ c.works_on.ensures.1 q))

pub returns : goal.returns
returns c = none-all c.args.table.now c.args.nodes.now c.loop-i.i (IsOn (the_turn c.args.table.now c.args.turn)) c.loop-i-test.false c.loop-i.invariant
