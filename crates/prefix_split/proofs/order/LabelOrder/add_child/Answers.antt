use Rattle.prefix_split.proofs.order.LabelOrder.add_child.Goals as goal

pub returns : goal.returns
returns c = λ value h. c.list_below.ensures value (record { above = h.above; shorter = h.shorter; possible = h.possible })
