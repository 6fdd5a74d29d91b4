use Rattle.std.proofs.Common.{◌≡◌, ◌++◌, map, drop, flat_map}
use Rattle.calculus.specs.FirstWrong.{line_bytes}
use Rattle.derivation_text.specs.NumbersView.{the_numbered_step}
use Rattle.derivation_text.specs.Writing.{step_line_at}
use Rattle.derivation_text.proofs.line_writer.write_steps.Given as goal

abbrev pub invariant-loop-step : goal.invariant-loop-step
invariant-loop-step l = l.out.items ++ flat_map line_bytes (map (step_line_at l.version l.problem.symbols l.d.labels l.d.terms) (map the_numbered_step (drop l.step-index l.steps))) ≡ l.fn.out.items ++ flat_map line_bytes (map (step_line_at l.version l.problem.symbols l.d.labels l.d.terms) (map the_numbered_step l.steps))
