use Rattle.prefix_split.specs.declared.order.Relation.TheVariants.{Weak}
use Rattle.prefix_split.proofs.order.LabelOrder.begins.Goals as goal

pub returns : goal.returns
returns c = λ e value h. c.has.ensures e value Weak h.above
