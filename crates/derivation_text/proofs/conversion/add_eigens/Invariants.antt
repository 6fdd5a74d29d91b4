use Rattle.std.proofs.Common.{◌≡◌, ◌++◌, map, take}
use Rattle.calculus.specs.Versions.{stated_eigen}
use Rattle.derivation_text.specs.NumbersView.{the_numbered_eigen}
use Rattle.derivation_text.proofs.conversion.add_eigens.Given as goal

abbrev pub invariant-loop-name : goal.invariant-loop-name
invariant-loop-name l = l.to ≡ l.initial.to ++ map (λ x. stated_eigen l.d.labels (the_numbered_eigen x)) (take l.name-index l.names)
