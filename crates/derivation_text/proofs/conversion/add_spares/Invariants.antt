use Rattle.std.proofs.Common.{◌≡◌, ◌++◌, map, take}
use Rattle.calculus.specs.Versions.{stated_spare}
use Rattle.derivation_text.specs.NumbersView.{the_numbered_spare}
use Rattle.derivation_text.proofs.conversion.add_spares.Given as goal

abbrev pub invariant-loop-name : goal.invariant-loop-name
invariant-loop-name l = l.to ≡ l.initial.to ++ map (λ x. stated_spare l.d.labels (the_numbered_spare x)) (take l.name-index l.names)
