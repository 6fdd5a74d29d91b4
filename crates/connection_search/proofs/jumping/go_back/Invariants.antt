use Rattle.std.proofs.Common.{◌≤◌, length}
use Rattle.store_theory.specs.Stores.{IsGood, TrailMark}
use Rattle.term_store.specs.Room.{KeepsRoom}
use Rattle.connection_search.specs.Exploring.{AreAbove, KeepsMoment}
use Rattle.connection_search.specs.GoingBack.{GoesBack, Origin}
use Rattle.search_tree.specs.Looking.{bound_in}
use Rattle.search_tree.specs.Weights.{weight_of_all}
use Rattle.connection_search.proofs.jumping.go_back.Given as goal

abbrev pub invariant-loop-low : goal.invariant-loop-low
invariant-loop-low l = record {
  back : (o : Origin) → GoesBack o l.goal (bound_in l.look) l.first l.initial.store.store l.initial.tree.steps.items l.initial.tree.goals.items l.initial.points.items → GoesBack o l.goal (bound_in l.look) l.lowest l.store.store l.tree.steps.items l.tree.goals.items l.points.items;
  falls : weight_of_all l.points.items ≤ weight_of_all l.initial.points.items;
  above : (k : TrailMark) → AreAbove k l.initial.points.items → AreAbove k l.points.items;
  moment : (k : TrailMark) → IsGood k l.initial.store.store → AreAbove k l.initial.points.items → KeepsMoment k l.initial.store.store l.store.store;
  room : KeepsRoom l.initial.store l.store;
}

abbrev pub decreases-loop-low : goal.decreases-loop-low
decreases-loop-low l = length l.points.items
