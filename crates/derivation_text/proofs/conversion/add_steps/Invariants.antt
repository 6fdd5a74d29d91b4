use Rattle.std.proofs.Common.{◌≡◌, ◌++◌, map, take}
use Rattle.calculus.specs.Versions.{stated_step}
use Rattle.derivation_text.specs.NumbersView.{the_numbered_step}
use Rattle.derivation_text.proofs.conversion.add_steps.Given as goal

abbrev pub invariant-loop-step : goal.invariant-loop-step
invariant-loop-step l = l.to ≡ l.initial.to ++ map (λ x. stated_step l.d.labels l.d.terms (the_numbered_step x)) (take l.step-index l.steps)
