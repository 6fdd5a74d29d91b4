use Rattle.prefix_split.proofs.order.LabelOrder.add_strict_row.Goals as goal

pub loop-k-preserved : goal.loop-k-preserved
loop-k-preserved c = λ value b h. c.add_strict_word.ensures value b (c.loop-k.invariant value b h)
