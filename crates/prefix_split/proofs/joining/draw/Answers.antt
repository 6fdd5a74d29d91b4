use Rattle.prefix_split.proofs.joining.draw.Goals as goal

pub returns : goal.returns
returns c = λ σ value t v h. c.draw_all_equal.ensures σ value t v (c.follow.ensures σ value v h)
