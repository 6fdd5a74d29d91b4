use Rattle.std.proofs.Common.{◌≡◌, ℕ, List, [], map, take}
use Rattle.calculus.specs.Derivations.{EigenName}
use Rattle.calculus.specs.Versions.{numbering}
use Rattle.derivation_text.specs.Entering.{derivation_with}
use Rattle.sequent_calc.specs.NamesView.{the_spare}
use Rattle.derivation_text.proofs.numbering.enter_spares.Given as goal

abbrev pub invariant-loop-name : goal.invariant-loop-name
invariant-loop-name l = (limit : ℕ) (es : List EigenName) → l.initial.d ≡ numbering (derivation_with limit es [] []) → l.d ≡ numbering (derivation_with limit es (map the_spare (take l.name-index l.names)) [])
