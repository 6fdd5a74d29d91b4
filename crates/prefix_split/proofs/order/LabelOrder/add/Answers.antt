use Rattle.prefix_split.proofs.order.LabelOrder.add.Goals as goal

pub returns : goal.returns
returns c = λ value b h. c.list_all_below.ensures value (c.join_rows.ensures value b (record { above = h.above; shorter = h.shorter; possible = h.possible }))
