use Rattle.prefix_split.proofs.joining.settle.Goals as goal

pub returns-then-not-take_grown : goal.returns-then-not-take_grown
returns-then-not-take_grown c = λ σ value t v h. c.take_grown.ensures value (c.loop.invariant σ value t v h)
