use Rattle.std.proofs.Common.{List}
use Rattle.search_theory.specs.States.{CellGoal}
use Rattle.store_theory.specs.Systems.{CellAtom}
use Rattle.search_tree.specs.GoalKeys.{IsReadingAt}
use Rattle.search_tree.proofs.goal_key.GoalKey.read_cells.Given as goal

abbrev pub invariant-loop-i : goal.invariant-loop-i
invariant-loop-i l = (x : CellGoal) (rest : List CellAtom) → IsReadingAt l.store.store x l.initial.self rest → IsReadingAt l.store.store x l.self rest
