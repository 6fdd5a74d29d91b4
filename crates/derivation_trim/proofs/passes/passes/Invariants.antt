use Rattle.std.proofs.Common.{◌≡◌, ◌++◌, drop, map}
use Rattle.sequent_calc.specs.StepView.{the_step}
use Rattle.trim_theory.specs.Found.{passes_in}
use Rattle.trim_theory.specs.Reading.{passes_of}
use Rattle.derivation_trim.specs.BranchView.{the_branch, the_waiting}
use Rattle.derivation_trim.proofs.passes.passes.Given as goal

abbrev pub invariant-loop-step : goal.invariant-loop-step
invariant-loop-step l = l.passes.items ++ passes_of (map the_step (drop l.step-index l.steps)) l.starts_right (the_branch l.branch.items) (the_waiting l.forks.items) ≡ passes_in l.fn.problem (map the_step l.steps)
