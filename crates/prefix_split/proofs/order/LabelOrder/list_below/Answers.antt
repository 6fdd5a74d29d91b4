use Rattle.prefix_split.proofs.order.LabelOrder.list_below.Goals as goal

pub loop-k-preserved : goal.loop-k-preserved
loop-k-preserved c = λ value h. let k = c.loop-k.invariant value h in record { above = k.above; shorter = k.shorter; possible = k.possible }
