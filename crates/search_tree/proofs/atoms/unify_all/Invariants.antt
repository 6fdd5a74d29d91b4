use Rattle.std.proofs.Common.{map}
use Rattle.term_store.specs.RefView.{the_place}
use Rattle.term_store.specs.Room.{KeepsRoom}
use Rattle.term_unify.specs.Closed.{IsClosedBelow}
use Rattle.search_tree.proofs.UnifyingLaws.{UnifiedTo}
use Rattle.search_tree.proofs.atoms.unify_all.Given as goal

abbrev pub invariant-loop-i : goal.invariant-loop-i
invariant-loop-i l = record {
  unified : UnifiedTo l.initial.store.store l.store.store (map the_place l.xs) (map the_place l.ys) l.i;
  room : KeepsRoom l.initial.store l.store;
  closed : IsClosedBelow l.closed l.store.store;
}
