use Rattle.tableau_reading.proofs.GatheringLaws.{AllPairsTo}
use Rattle.tableau_reading.proofs.system.all_pairs.Given as goal

abbrev pub invariant-loop-goal : goal.invariant-loop-goal
invariant-loop-goal l = AllPairsTo l.tree.steps.items l.tree.goals.items l.pairs l.goal
