use Rattle.prefix_split.proofs.joining.join_children.Goals as goal

pub loop-preserved : goal.loop-preserved
loop-preserved c = λ σ value t v h. c.join_with.ensures σ value t v (c.loop.invariant σ value t v h)
