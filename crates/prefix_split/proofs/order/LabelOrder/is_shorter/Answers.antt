use Rattle.prefix_split.specs.declared.order.Relation.TheVariants.{Strict}
use Rattle.prefix_split.proofs.order.LabelOrder.is_shorter.Goals as goal

pub returns : goal.returns
returns c = λ e value h. c.has.ensures e value Strict h.shorter
