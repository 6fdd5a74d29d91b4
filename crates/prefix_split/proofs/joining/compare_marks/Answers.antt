use Rattle.prefix_split.proofs.joining.compare_marks.Goals as goal

pub returns-then-have_other_marks : goal.returns-then-have_other_marks
returns-then-have_other_marks c = λ σ value t v h. absurd (c.have_other_marks.ensures c.if-have_other_marks.true σ value t v (c.are_equal.ensures c.if-not-are_equal.false value h))
