use Rattle.term_store.specs.ClauseView.{the_pattern_atom}
use Rattle.term_store.specs.RefView.{the_places}
use Rattle.search_theory.specs.States.{CellGoal}
use Rattle.search_theory.specs.Uncopied.{IsApartOver}
use Rattle.search_tree.specs.Trees.{IsGoalAt}
use Rattle.search_tree.proofs.LookingOver.{IsApartFrom}
use Rattle.search_tree.proofs.WayUpLaws.{IsUpTo}
use Rattle.search_tree.proofs.uncopied.may_reduce.Given as goal

abbrev pub invariant-loop-i : goal.invariant-loop-i
invariant-loop-i l = record {
  up : IsUpTo (IsApartFrom l.store.store (the_places l.variables) (the_pattern_atom l.literal)) l.tree.steps.items l.tree.goals.items l.goal l.above l._i;
  own : (x : CellGoal) → IsGoalAt l.tree.steps.items l.tree.goals.items l.goal x → IsApartOver l.store.store (the_places l.variables) (the_pattern_atom l.literal) x.literal;
}
