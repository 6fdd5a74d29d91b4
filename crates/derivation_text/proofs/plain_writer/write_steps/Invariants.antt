use Rattle.std.proofs.Common.{◌≡◌, ◌++◌, map, drop}
use Rattle.std.specs.List.{flat_map}
use Rattle.calculus.specs.DerivationText.{step_line}
use Rattle.calculus.specs.FirstWrong.{line_bytes}
use Rattle.sequent_calc.specs.StepView.{the_step}
use Rattle.derivation_text.proofs.plain_writer.write_steps.Given as goal

abbrev pub invariant-loop-step : goal.invariant-loop-step
invariant-loop-step l = l.out.items ++ flat_map line_bytes (map (step_line l.symbols) (map the_step (drop l.step-index l.step-items))) ≡ l.fn.out.items ++ flat_map line_bytes (map (step_line l.symbols) l.steps)
