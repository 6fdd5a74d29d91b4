use Rattle.prefix_split.proofs.refuting.settled.Goals as goal

pub returns : goal.returns
returns c = λ σ value t v p. c.settle.ensures σ value t v (c.add_pairs.ensures value p (c.add_nodes.ensures σ value v (c.in_ok-order.ensures value)))
