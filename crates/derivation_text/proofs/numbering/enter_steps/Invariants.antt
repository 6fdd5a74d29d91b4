use Rattle.std.proofs.Common.{◌≡◌, ℕ, List, [], map, take}
use Rattle.calculus.specs.Derivations.{EigenName, SpareName}
use Rattle.calculus.specs.Versions.{numbering}
use Rattle.derivation_text.specs.Entering.{derivation_with}
use Rattle.sequent_calc.specs.StepView.{the_step}
use Rattle.derivation_text.proofs.numbering.enter_steps.Given as goal

abbrev pub invariant-loop-step : goal.invariant-loop-step
invariant-loop-step l = (limit : ℕ) (es : List EigenName) (ss : List SpareName) → l.initial.d ≡ numbering (derivation_with limit es ss []) → l.d ≡ numbering (derivation_with limit es ss (map the_step (take l.step-index l.steps)))
