use Rattle.std.proofs.Common.{length, refl}
use Rattle.derivation_text.specs.Listed.{has_home_among}
use Rattle.derivation_text.specs.NumbersView.{the_numbered_eigen}
use Rattle.derivation_text.proofs.Items.{all-item}
use Rattle.derivation_text.proofs.line_writer.write_eigens.Goals as goal

pub write_eigen-requires : goal.write_eigen-requires
write_eigen-requires c = record {
  among = all-item the_numbered_eigen (has_home_among (length c.args.d.now.labels)) c.args.names.now _ c.loop-name.name-index _ _ refl c.loop-name-test.true refl c.requires.among;
  written = c.requires.written;
}
