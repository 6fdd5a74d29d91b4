use Rattle.std.proofs.Common.{map}
use Rattle.store_theory.proofs.WeightLaws.{weight_sum}
use Rattle.term_store.specs.RefView.{the_place}
use Rattle.term_unify.proofs.InnerLaws.{LooksInside}
use Rattle.term_unify.proofs.check.occurs.Given as goal

abbrev pub invariant-loop-place : goal.invariant-loop-place
invariant-loop-place l = LooksInside l.store.store l.v.0 l.fn.r.0 (map the_place l.places.items) l.visited.pairs.keys

abbrev pub decreases-loop-place : goal.decreases-loop-place
decreases-loop-place l = weight_sum l.store.store (map the_place l.places.items)
