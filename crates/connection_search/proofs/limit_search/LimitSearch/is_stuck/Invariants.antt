use Rattle.std.proofs.Common.{List}
use Rattle.search_theory.specs.States.{CellGoal}
use Rattle.search_tree.specs.Trees.{AreOpen}
use Rattle.connection_search.proofs.limit_search.LimitSearch.is_stuck.Given as goal

abbrev pub invariant-loop-i : goal.invariant-loop-i
invariant-loop-i l = (xs : List CellGoal) × AreOpen l.tree.steps.items l.tree.goals.items l.next xs
