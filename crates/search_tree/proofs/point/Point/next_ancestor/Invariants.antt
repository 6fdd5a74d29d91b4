use Rattle.std.proofs.Common.{◌≡◌, drop}
use Rattle.search_theory.specs.States.{CellGoal}
use Rattle.search_tree.specs.Points.{IsSamePoint}
use Rattle.search_tree.specs.Trees.{IsGoalAt, IsPath}
use Rattle.search_tree.proofs.PointLaws.{PassedAncestors}
use Rattle.search_tree.proofs.point.Point.next_ancestor.Given as goal

abbrev pub invariant-loop-i : goal.invariant-loop-i
invariant-loop-i l = record {
  passed : (g : CellGoal) → IsGoalAt l.tree.steps.items l.tree.goals.items l.initial.self.goal g → IsPath l.tree.steps.items l.tree.goals.items l.initial.self.above (drop l.initial.self.up g.path) → PassedAncestors l.tree.steps.items l.tree.goals.items g l.initial.self l.self l._i;
  same : IsSamePoint l.initial.self l.self;
  next : l.self.next ≡ l.initial.self.next;
  end : l.self.end ≡ l.initial.self.end;
}
