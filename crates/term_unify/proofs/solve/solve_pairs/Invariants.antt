use Rattle.std.proofs.Common.{map}
use Rattle.store_theory.proofs.WeightLaws.{open_count}
use Rattle.term_store.specs.Room.{KeepsRoom}
use Rattle.term_unify.specs.Closed.{IsClosedBelow}
use Rattle.term_unify.specs.PairView.{the_pair}
use Rattle.term_unify.proofs.PairLaws.{Unified}
use Rattle.term_unify.proofs.solve.solve_pairs.Given as goal

abbrev pub invariant-loop-v : goal.invariant-loop-v
invariant-loop-v l = record {
  unified : Unified l.initial.store.store l.store.store (map the_pair l.initial.pairs.items) (map the_pair l.pairs.items);
  room : KeepsRoom l.initial.store l.store;
  closed : IsClosedBelow l.below l.store.store;
}

abbrev pub decreases-loop-v : goal.decreases-loop-v
decreases-loop-v l = open_count l.store.store.cells
