use Rattle.prefix_split.proofs.order.LabelOrder.take_grown.Goals as goal

pub returns : goal.returns
returns c = λ value h. record { above = h.above; shorter = h.shorter; possible = h.possible }
