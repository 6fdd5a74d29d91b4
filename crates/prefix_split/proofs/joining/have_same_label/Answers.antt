use Rattle.prefix_split.proofs.OrderLaws.{nodes-same}
use Rattle.prefix_split.proofs.joining.have_same_label.Goals as goal

pub returns : goal.returns
returns c = λ e σ value t v h. nodes-same σ value c.args.nodes.now c.args.y c.args.z c.node_at-a.result c.node_at-b.result v c.node_at-a.ensures c.node_at-b.ensures (c.are_equal.ensures c.if-not-are_equal.false value h) (c.in_ok-same.ensures e σ t)
