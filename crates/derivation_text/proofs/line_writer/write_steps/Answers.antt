use Rattle.std.proofs.Common.{length, refl}
use Rattle.derivation_text.specs.Listed.{are_listed}
use Rattle.derivation_text.specs.NumbersView.{the_numbered_step}
use Rattle.derivation_text.proofs.Items.{all-item}
use Rattle.derivation_text.proofs.line_writer.write_steps.Goals as goal

pub write_step_line-requires : goal.write_step_line-requires
write_step_line-requires c = record {
  listed = all-item the_numbered_step (are_listed (length c.args.d.now.labels) (length c.args.d.now.terms)) c.args.steps.now _ c.loop-step.step-index _ _ refl c.loop-step-test.true refl c.requires.listed;
  written = c.requires.written;
}
