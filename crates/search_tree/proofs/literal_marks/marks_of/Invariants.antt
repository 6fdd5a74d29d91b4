use Rattle.std.proofs.Common.{◌≡◌}
use Rattle.std.specs.Int.{bit_at}
use Rattle.search_theory.specs.Ahead.{bit_of}
use Rattle.search_theory.specs.States.{CellGoal}
use Rattle.search_tree.specs.Trees.{IsGoalAt}
use Rattle.search_tree.proofs.AheadLaws.{IsMarkedBy}
use Rattle.search_tree.proofs.WayUpLaws.{IsUpTo}
use Rattle.search_tree.proofs.literal_marks.marks_of.Given as goal

abbrev pub invariant-loop-i : goal.invariant-loop-i
invariant-loop-i l = record {
  up : IsUpTo (IsMarkedBy l.marks) l.tree.steps.items l.tree.goals.items l.goal l.above l._i;
  own : (x : CellGoal) → IsGoalAt l.tree.steps.items l.tree.goals.items l.goal x → bit_at l.marks (bit_of x.literal.symbol x.literal.sign) ≡ 1;
}
