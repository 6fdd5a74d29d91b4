use Rattle.tableau_reading.proofs.GatheringLaws.{PairsTo}
use Rattle.tableau_reading.proofs.system.add_pairs.Given as goal

abbrev pub invariant-loop-i : goal.invariant-loop-i
invariant-loop-i l = PairsTo l.tree.steps.items l.tree.goals.items l.goal l.initial.pairs l.pairs l.above l._i
