-- Turns once each, in the order of the agenda.
use Rattle.std.specs.Prelude.{List}
use Rattle.std.specs.List.{flat_map}

abbrev pub joined : {A : Type 0} → List (List A) → List A
joined xs = flat_map (λ x. x) xs
