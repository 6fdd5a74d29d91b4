use Rattle.std.proofs.Common.{◌≡◌}
use Rattle.finite_model.specs.Conditions.{tuple_places}
use Rattle.finite_model.proofs.tuples.places_of.Given as goal

abbrev pub invariant-loop-argument : goal.invariant-loop-argument
invariant-loop-argument l = l.places.items ≡ tuple_places l.elements l.domain l._argument
