use Rattle.std.proofs.Common.{◌≡◌, ℕ, [], map, take}
use Rattle.calculus.specs.Versions.{numbering}
use Rattle.derivation_text.specs.Entering.{derivation_with}
use Rattle.sequent_calc.specs.NamesView.{the_eigen}
use Rattle.derivation_text.proofs.numbering.enter_eigens.Given as goal

abbrev pub invariant-loop-name : goal.invariant-loop-name
invariant-loop-name l = (limit : ℕ) → l.initial.d ≡ numbering (derivation_with limit [] [] []) → l.d ≡ numbering (derivation_with limit (map the_eigen (take l.name-index l.names)) [] [])
