use Rattle.prefix_split.proofs.OrderLaws.{gap-above}
use Rattle.prefix_split.proofs.rules.is_gap.Goals as goal

pub returns-then-left : goal.returns-then-left
returns-then-left c = λ e σ value v h. gap-above (value c.in-Some.x) (value c.args.y) (value c.args.z) (value c.args.w) (c.in-Some.ensures σ value v) (c.is_shorter-shorter.ensures c.if-shorter.true value h) (c.begins-left.ensures c.if-left.true value h) (c.begins-last.ensures e value h)
