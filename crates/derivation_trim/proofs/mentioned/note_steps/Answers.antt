use Rattle.std.proofs.Common.{arith}
use Rattle.calculus.specs.Calculus.{is_eigen}
use Rattle.derivation_branch.specs.Occurring.{holds}
use Rattle.sequent_calc.specs.StepView.{the_step}
use Rattle.trim_theory.specs.UsedNames.{is_spare, step_has}
use Rattle.derivation_trim.proofs.NameLaws.{noted-end, noted-next}
use Rattle.derivation_trim.proofs.mentioned.note_steps.Goals as goal

pub loop-step-preserved : goal.loop-step-preserved
loop-step-preserved c = let l = c.loop-step in let x = c.step-item.result in record {
  eigens = λ n. noted-next the_step (step_has (is_eigen n)) c.args.steps.now l.step-index x x (holds l.eigens n) (holds c.note_step.new.eigens n) _ (omega arith) c.step-item.is (c.in_ok-note_step.ensures.eigens n) (l.invariant.eigens n);
  spares = λ n. noted-next the_step (step_has (is_spare n)) c.args.steps.now l.step-index x x (holds l.spares n) (holds c.note_step.new.spares n) _ (omega arith) c.step-item.is (c.in_ok-note_step.ensures.spares n) (l.invariant.spares n);
}

pub returns : goal.returns
returns c = let l = c.loop-step in record {
  eigens = λ n. noted-end the_step (step_has (is_eigen n)) c.args.steps.now l.step-index (holds l.eigens n) _ (omega arith) (l.invariant.eigens n);
  spares = λ n. noted-end the_step (step_has (is_spare n)) c.args.steps.now l.step-index (holds l.spares n) _ (omega arith) (l.invariant.spares n);
}
