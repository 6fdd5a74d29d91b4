use Rattle.problem_build.proofs.chain.+balanced.Given as goal

abbrev pub decreases-balanced : goal.decreases-balanced
decreases-balanced l = l.count
