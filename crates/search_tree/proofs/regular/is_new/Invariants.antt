use Rattle.search_tree.proofs.SeenLaws.{SeenTo}
use Rattle.search_tree.proofs.regular.is_new.Given as goal

abbrev pub invariant-loop-i : goal.invariant-loop-i
invariant-loop-i l = SeenTo l.store.store l.tree.steps.items l.tree.goals.items l.goal l.above l._i
