use Rattle.prefix_split.specs.declared.order.Relation.TheVariants.{Weak}
use Rattle.prefix_split.proofs.order.LabelOrder.set_weak.Goals as goal

pub returns : goal.returns
returns c = λ value b h. record { above = c.set.ensures value Weak b h.above; shorter = h.shorter; possible = h.possible }
