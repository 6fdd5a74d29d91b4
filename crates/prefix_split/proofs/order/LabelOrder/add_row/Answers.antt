use Rattle.std.proofs.Common.{subst}
use Rattle.prefix_split.specs.Beginnings.{IsRelated}
use Rattle.prefix_split.proofs.order.LabelOrder.add_row.Goals as goal

pub returns-in-Weak : goal.returns-in-Weak
returns-in-Weak c = λ value b h. c.add_weak_row.ensures value (subst (λ r. IsRelated r (value c.args.x) (value c.args.v)) c.in-Weak.is b) h
