use Rattle.std.proofs.Common.{◌∙◌, sym}
use Rattle.prefix_split.proofs.OrderLaws.{short-behind}
use Rattle.prefix_split.proofs.rules.short_parent.Goals as goal

pub returns-then-is_short : goal.returns-then-is_short
returns-then-is_short c = λ σ value v. short-behind σ value c.args.nodes.now c.args.y c.node_at-node.result v c.node_at-node.ensures (sym c.is_short.ensures ∙ c.if-is_short.true)
