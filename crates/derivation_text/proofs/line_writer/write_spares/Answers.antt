use Rattle.std.proofs.Common.{length, refl}
use Rattle.derivation_text.specs.Listed.{may_have_home_among}
use Rattle.derivation_text.specs.NumbersView.{the_numbered_spare}
use Rattle.derivation_text.proofs.Items.{all-item}
use Rattle.derivation_text.proofs.line_writer.write_spares.Goals as goal

pub write_spare-requires : goal.write_spare-requires
write_spare-requires c = record {
  among = all-item the_numbered_spare (may_have_home_among (length c.args.d.now.labels)) c.args.names.now _ c.loop-name.name-index _ _ refl c.loop-name-test.true refl c.requires.among;
  written = c.requires.written;
}
