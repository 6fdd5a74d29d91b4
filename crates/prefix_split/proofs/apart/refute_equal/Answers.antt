use Rattle.prefix_split.proofs.apart.refute_equal.Goals as goal

pub loop-i-preserved : goal.loop-i-preserved
loop-i-preserved c = λ value a h. c.compare_labels.ensures value (a c.loop-i.i c.both_at-both.result c.both_at-both.ensures) (c.loop-i.invariant value a h)
