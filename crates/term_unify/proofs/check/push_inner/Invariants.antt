use Rattle.std.proofs.Common.{map}
use Rattle.term_store.specs.RefView.{the_place}
use Rattle.term_unify.proofs.InnerLaws.{AddsUpTo}
use Rattle.term_unify.proofs.check.push_inner.Given as goal

abbrev pub invariant-loop-i : goal.invariant-loop-i
invariant-loop-i l = AddsUpTo l.store.store l.v.0 l.fn.r.0 l.i (map the_place l.initial.places.items) (map the_place l.places.items)
