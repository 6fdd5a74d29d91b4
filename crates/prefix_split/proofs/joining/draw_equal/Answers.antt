use Rattle.prefix_split.proofs.joining.draw_equal.Goals as goal

pub returns : goal.returns
returns c = λ σ value t v h. c.join_children.ensures σ value t v (c.compare_marks.ensures σ value t v h)
