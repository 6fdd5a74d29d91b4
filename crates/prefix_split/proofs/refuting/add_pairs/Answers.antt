use Rattle.prefix_split.proofs.refuting.add_pairs.Goals as goal

pub loop-i-preserved : goal.loop-i-preserved
loop-i-preserved c = λ value h k. c.add.ensures value (h c.loop-i.i c.both_at-pair.result c.both_at-pair.ensures) (c.loop-i.invariant value h k)
