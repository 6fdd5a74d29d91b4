use Rattle.prefix_split.proofs.order.LabelOrder.list_all_below.Goals as goal

pub loop-preserved : goal.loop-preserved
loop-preserved c = λ value h. c.list_below.ensures value (c.loop.invariant value h)
