use Rattle.prefix_split.specs.declared.order.Relation.TheVariants.{Strict, Weak}
use Rattle.prefix_split.proofs.order.LabelOrder.set_strict.Goals as goal

pub returns : goal.returns
returns c = λ value b h. record { above = c.set.ensures value Weak b.0 h.above; shorter = c.set-2.ensures value Strict b h.shorter; possible = h.possible }
