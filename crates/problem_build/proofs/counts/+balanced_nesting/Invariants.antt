use Rattle.problem_build.proofs.counts.+balanced_nesting.Given as goal

abbrev pub decreases-balanced_nesting : goal.decreases-balanced_nesting
decreases-balanced_nesting l = l.count
