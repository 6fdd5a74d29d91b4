use Rattle.prefix_split.proofs.choosing.assume.Goals as goal

pub returns : goal.returns
returns c = λ σ value t v b h. c.settle.ensures σ value t v (c.add.ensures value b h)
