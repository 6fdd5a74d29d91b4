use Rattle.search_tree.proofs.SeenLaws.{AreNewTo}
use Rattle.search_tree.proofs.regular.first_repeated.Given as goal

abbrev pub invariant-loop-goal : goal.invariant-loop-goal
invariant-loop-goal l = AreNewTo l.store.store l.tree.steps.items l.tree.goals.items l.first l.goal
