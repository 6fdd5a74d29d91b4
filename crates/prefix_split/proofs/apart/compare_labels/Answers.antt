use Rattle.prefix_split.proofs.apart.compare_labels.Goals as goal

pub returns-then-are_equal : goal.returns-then-are_equal
returns-then-are_equal c = λ value d h. absurd (d (c.are_equal.ensures c.if-are_equal.true value h))
