use Rattle.search_tree.specs.GoalKeys.{variables_in}
use Rattle.search_tree.proofs.KeyLaws.{ReadsTo}
use Rattle.search_tree.proofs.goal_key.GoalKey.read.Given as goal

abbrev pub invariant-loop-i : goal.invariant-loop-i
invariant-loop-i l = ReadsTo l.store.store l.tree.steps.items l.tree.goals.items l.goal (variables_in l.self) l.self.parts.items l.above l._i
