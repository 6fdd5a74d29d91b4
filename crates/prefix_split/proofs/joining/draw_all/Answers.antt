use Rattle.prefix_split.proofs.joining.draw_all.Goals as goal

pub loop-u-preserved : goal.loop-u-preserved
loop-u-preserved c = λ σ value t v h. c.draw.ensures σ value t v (c.loop-u.invariant σ value t v h)
