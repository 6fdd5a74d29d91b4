use Rattle.std.proofs.Common.{◌≡◌, ◌≤◌, ◌+◌, ◌-◌, ℕ, List, Some}
use Rattle.calculus.specs.Choices.{Choice}
use Rattle.calculus.specs.Syntax.{Problem}
use Rattle.search_theory.specs.States.{CellGoal}
use Rattle.term_store.specs.Room.{KeepsRoom}
use Rattle.search_tree.specs.Points.{IsHere}
use Rattle.search_tree.specs.Running.{IsAtGoal, IsMatrixOf}
use Rattle.connection_search.proofs.LeftLaws.{TriedTo}
use Rattle.connection_search.proofs.limit_search.LimitSearch.is_left_at.Given as goal

abbrev pub invariant-loop-place : goal.invariant-loop-place
invariant-loop-place l = record {
  store : l.store.store ≡ l.initial.store.store;
  steps : l.work.tree.steps.items ≡ l.initial.work.tree.steps.items;
  goals : l.work.tree.goals.items ≡ l.initial.work.tree.goals.items;
  first : l.work.tree.open ≡ l.initial.work.tree.open;
  goal : l.point.goal ≡ l.fn.goal;
  here_goal : l.here.goal ≡ l.fn.goal;
  here : IsHere l.here l.initial.store.store l.initial.work.tree.steps.items l.initial.work.tree.goals.items (Some l.fn.goal);
  room : KeepsRoom l.initial.store l.store;
  tried : (P : Problem) (base d : ℕ) (c : List Choice) (g : CellGoal) → IsMatrixOf P l.self.matrix.now → IsAtGoal P l.self.matrix.now base d c l.initial.store.store l.initial.work.tree.steps.items l.initial.work.tree.goals.items l.fn.goal g → l.self.limit ≡ d → d ≤ 200 → TriedTo P l.self.matrix.now (d + 1) c g l.point;
}

abbrev pub decreases-loop-place : goal.decreases-loop-place
decreases-loop-place l = l.point.end - l.point.next
