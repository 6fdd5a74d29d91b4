use Rattle.std.proofs.Common.{◌≡◌, take}
use Rattle.finite_model.specs.Conditions.{longer_places}
use Rattle.finite_model.proofs.tuples.places_with.Given as goal

abbrev pub invariant-loop-place : goal.invariant-loop-place
invariant-loop-place l = l.more.items ≡ longer_places l.elements l.domain (take l.place-index l.places)
