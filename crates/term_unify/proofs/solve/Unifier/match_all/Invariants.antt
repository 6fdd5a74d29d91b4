use Rattle.std.proofs.Common.{map}
use Rattle.term_store.specs.PatternView.{the_pattern}
use Rattle.term_store.specs.RefView.{the_place, the_places}
use Rattle.term_store.specs.Room.{KeepsRoom}
use Rattle.term_unify.specs.Closed.{IsClosedBelow}
use Rattle.term_unify.proofs.MatchedLaws.{MatchedTo}
use Rattle.term_unify.proofs.solve.Unifier.match_all.Given as goal

abbrev pub invariant-loop-i : goal.invariant-loop-i
invariant-loop-i l = record {
  matched : MatchedTo l.initial.store.store l.store.store (the_places l.variables) (map the_place l.cells) (map the_pattern l.items) l.i;
  closed : IsClosedBelow l.closed l.store.store;
  room : KeepsRoom l.initial.store l.store;
}
