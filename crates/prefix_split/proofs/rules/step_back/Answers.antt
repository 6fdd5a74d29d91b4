use Rattle.prefix_split.proofs.OrderLaws.{gap-below}
use Rattle.prefix_split.proofs.rules.step_back.Goals as goal

pub returns-then-is_shorter : goal.returns-then-is_shorter
returns-then-is_shorter c = λ σ value v h. c.add.ensures value (gap-below (value c.in-Some.x) (value c.args.y) (value c.args.z) (c.in-Some.ensures σ value v) (c.is_shorter.ensures c.if-is_shorter.true value h)) h
