use Rattle.prefix_split.proofs.rules.close_gap.Goals as goal

pub returns-then-is_gap : goal.returns-then-is_gap
returns-then-is_gap c = λ σ value v h. c.add.ensures value (c.is_gap.ensures c.if-is_gap.true σ value v h) h
