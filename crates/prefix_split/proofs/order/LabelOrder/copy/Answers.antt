use Rattle.prefix_split.specs.declared.order.Relation.TheVariants.{Strict, Weak}
use Rattle.prefix_split.proofs.order.LabelOrder.copy.Goals as goal

pub returns : goal.returns
returns c = λ value h. record { above = c.in_ok-above.ensures value Weak h.above; shorter = c.in_ok-shorter.ensures value Strict h.shorter; possible = h.possible }
