use Rattle.std.proofs.Common.{subst}
use Rattle.prefix_split.specs.Beginnings.{IsRelated}
use Rattle.prefix_split.proofs.order.LabelOrder.set.Goals as goal

pub returns-in-Weak : goal.returns-in-Weak
returns-in-Weak c = λ value b h. c.set_weak.ensures value (subst (λ r. IsRelated r (value c.args.x) (value c.args.u)) c.in-Weak.is b) h

pub returns-in-Strict : goal.returns-in-Strict
returns-in-Strict c = λ value b h. c.set_strict.ensures value (subst (λ r. IsRelated r (value c.args.x) (value c.args.u)) c.in-Strict.is b) h
