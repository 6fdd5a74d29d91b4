use Rattle.std.proofs.Common.{◌≡◌, ◌||◌, ℕ, drop, map}
use Rattle.std.specs.List.{list_any}
use Rattle.calculus.specs.Calculus.{is_eigen}
use Rattle.derivation_branch.specs.Occurring.{holds}
use Rattle.sequent_calc.specs.StepView.{the_step}
use Rattle.trim_theory.specs.UsedNames.{is_spare, step_has}
use Rattle.derivation_trim.proofs.mentioned.note_steps.Given as goal

abbrev pub invariant-loop-step : goal.invariant-loop-step
invariant-loop-step l = record {
  eigens : (n : ℕ) → (holds l.eigens n || list_any (step_has (is_eigen n)) (map the_step (drop l.step-index l.steps))) ≡ (holds l.initial.eigens n || list_any (step_has (is_eigen n)) (map the_step l.steps));
  spares : (n : ℕ) → (holds l.spares n || list_any (step_has (is_spare n)) (map the_step (drop l.step-index l.steps))) ≡ (holds l.initial.spares n || list_any (step_has (is_spare n)) (map the_step l.steps));
}
