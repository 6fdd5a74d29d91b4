use Rattle.search_tree.proofs.LookingOver.{IsAny}
use Rattle.search_tree.proofs.WayUpLaws.{IsUpTo}
use Rattle.search_tree.proofs.uncopied.is_repeated.Given as goal

abbrev pub invariant-loop-i : goal.invariant-loop-i
invariant-loop-i l = IsUpTo IsAny l.tree.steps.items l.tree.goals.items l.goal l.above l._i
