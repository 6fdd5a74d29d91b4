use Rattle.plain_laws.proofs.Places.{get-within}
use Rattle.prefix_split.proofs.GrowingLaws.{node-is}
use Rattle.prefix_split.proofs.growing.find.Goals as goal

pub returns-then-branch : goal.returns-then-branch
returns-then-branch c =
    let (parent, step) = c.in_ok-is_node.ensures c.if-branch.true in
    (get-within c.args.nodes.now c.loop-u.u c.node_at-node.result c.node_at-node.ensures, λ σ value t v. node-is σ value c.args.nodes.now c.loop-u.u c.node_at-node.result c.args.parent c.args.step v c.node_at-node.ensures parent (step σ t))
