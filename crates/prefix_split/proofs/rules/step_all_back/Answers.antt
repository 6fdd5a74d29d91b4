use Rattle.prefix_split.proofs.rules.step_all_back.Goals as goal

pub loop-preserved : goal.loop-preserved
loop-preserved c = λ σ value v h. c.step_back.ensures σ value v (c.loop.invariant σ value v h)
