use Rattle.std.proofs.Common.{map}
use Rattle.term_unify.specs.PairView.{the_pair}
use Rattle.term_unify.proofs.PairLaws.{pairs_weight}
use Rattle.term_unify.proofs.VisitLaws.{Comes}
use Rattle.term_unify.proofs.solve.next_binding.Given as goal

abbrev pub invariant-loop-a : goal.invariant-loop-a
invariant-loop-a l = Comes l.store.store (map the_pair l.initial.pairs.items) (map the_pair l.pairs.items) l.visited.pairs.keys

abbrev pub decreases-loop-a : goal.decreases-loop-a
decreases-loop-a l = pairs_weight l.store.store (map the_pair l.pairs.items)
