use Rattle.prefix_split.proofs.OrderLaws.{gap-either}
use Rattle.prefix_split.proofs.choosing.gap_below.Goals as goal

pub returns : goal.returns
returns c = λ σ value v h. gap-either (value c.in-Some.x) (value c.args.y) (value c.args.z) (value c.args.w) (c.in-Some.ensures σ value v) (c.begins.ensures c.if-not-begins.false value h) (c.begins-2.ensures c.if-not-begins-2.false value h)
