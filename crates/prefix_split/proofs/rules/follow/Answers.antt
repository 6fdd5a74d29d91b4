use Rattle.prefix_split.proofs.rules.follow.Goals as goal

pub returns : goal.returns
returns c = λ σ value v h. c.close_gaps.ensures σ value v (c.step_all_back.ensures σ value v h)
