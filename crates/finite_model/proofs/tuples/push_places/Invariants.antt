use Rattle.std.proofs.Common.{◌≡◌, ◌++◌, ◌+◌, ◌*◌, map, min, take}
use Rattle.finite_model.proofs.tuples.push_places.Given as goal

abbrev pub invariant-loop-element : goal.invariant-loop-element
invariant-loop-element l = l.places.items ≡ l.fn.places.items ++ map (λ x. min (l.place * l.elements + x) 18446744073709551615) (take l.element-index l.domain)
