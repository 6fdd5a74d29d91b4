use Rattle.prefix_split.proofs.OrderLaws.{never-shorter}
use Rattle.prefix_split.proofs.order.LabelOrder.compare.Goals as goal

pub returns-then-is_shorter : goal.returns-then-is_shorter
returns-then-is_shorter c = λ value h. absurd (never-shorter (value c.args.x) (c.is_shorter.ensures c.if-is_shorter.true value h))
