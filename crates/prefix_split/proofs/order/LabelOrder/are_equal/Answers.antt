use Rattle.prefix_split.proofs.OrderLaws.{begins-equal}
use Rattle.prefix_split.proofs.order.LabelOrder.are_equal.Goals as goal

pub returns-then-begins : goal.returns-then-begins
returns-then-begins c = λ e value h. begins-equal (value c.args.u) (value c.args.v) (c.begins.ensures c.if-begins.true value h) (c.begins-back.ensures e value h)
