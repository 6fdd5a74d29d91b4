use Rattle.prefix_split.proofs.rules.close_gaps.Goals as goal

pub loop-preserved : goal.loop-preserved
loop-preserved c = λ σ value v h. c.close_gap_with.ensures σ value v (c.loop.invariant σ value v h)
