use Rattle.std.proofs.Common.{◌≡◌, ◌++◌, map}
use Rattle.sequent_calc.specs.StepView.{the_step}
use Rattle.trim_theory.specs.Found.{written}
use Rattle.derivation_trim.proofs.WriteLaws.{rest_of}
use Rattle.derivation_trim.proofs.writing.write.Given as goal

abbrev pub invariant-loop-step : goal.invariant-loop-step
invariant-loop-step l = l.out ++ rest_of l.steps l.waiting.items l.step-index l.table.items l.forks.items ≡ written (map the_step l.steps) l.fn.marks.items
