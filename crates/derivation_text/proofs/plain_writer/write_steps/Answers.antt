use Rattle.std.proofs.Common.{arith}
use Rattle.calculus.specs.DerivationText.{step_is_written}
use Rattle.derivation_text.proofs.Items.{all-item}
use Rattle.sequent_calc.specs.StepView.{the_step}
use Rattle.derivation_text.proofs.plain_writer.write_steps.Goals as goal

pub write_step-requires : goal.write_step-requires
write_step-requires c = all-item the_step (step_is_written c.args.symbols.now) c.items-step-items.result.now c.args.steps.now c.loop-step.step-index c.step-item.result c.step-item.result c.items-step-items.ensures (omega arith) c.step-item.is c.requires
