use Rattle.prefix_split.proofs.joining.draw_all_equal.Goals as goal

pub loop-preserved : goal.loop-preserved
loop-preserved c = λ σ value t v h. c.draw_equal.ensures σ value t v (c.loop.invariant σ value t v h)
