use Rattle.std.proofs.Common.{◌≡◌, ◌≤◌, ◌-◌, ℕ, List}
use Rattle.calculus.specs.Choices.{Choice}
use Rattle.calculus.specs.Syntax.{Problem}
use Rattle.search_theory.specs.States.{CellGoal}
use Rattle.search_tree.specs.Points.{HasExtensions, IsSamePoint}
use Rattle.search_tree.specs.Running.{GoalStands, IsMatrixOf}
use Rattle.connection_search.proofs.PassingOver.{PassesTo}
use Rattle.connection_search.proofs.limit_search.LimitSearch.next_place.Given as goal

abbrev pub invariant-loop-place : goal.invariant-loop-place
invariant-loop-place l = record {
  passes : (P : Problem) (base : ℕ) (c : List Choice) (g : CellGoal) (xs : List Choice) → IsMatrixOf P l.self.matrix.now → GoalStands P l.self.matrix.now base l.self.limit c l.store l.fn.tree l.initial.point.goal g → HasExtensions l.self.matrix.now l.self.limit l.initial.point g xs → PassesTo P l.self.matrix.now l.self.limit c g xs l.fn.left l.point;
  same : IsSamePoint l.initial.point l.point;
  above : l.point.above ≡ l.initial.point.above;
  up : l.point.up ≡ l.initial.point.up;
  end : l.point.end ≡ l.initial.point.end;
  next : l.initial.point.next ≤ l.point.next;
}

abbrev pub decreases-loop-place : goal.decreases-loop-place
decreases-loop-place l = l.point.end - l.point.next
