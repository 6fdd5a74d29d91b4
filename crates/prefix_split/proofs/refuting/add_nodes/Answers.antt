use Rattle.prefix_split.proofs.refuting.add_nodes.Goals as goal

pub loop-u-preserved : goal.loop-u-preserved
loop-u-preserved c = λ σ value v h. c.add_node.ensures σ value v (c.loop-u.invariant σ value v h)
