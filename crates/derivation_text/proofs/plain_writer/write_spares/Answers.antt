use Rattle.std.proofs.Common.{arith}
use Rattle.derivation_text.proofs.Items.{all-item}
use Rattle.derivation_text.specs.Written.{spare_is_written}
use Rattle.sequent_calc.specs.NamesView.{the_spare}
use Rattle.derivation_text.proofs.plain_writer.write_spares.Goals as goal

pub write_spare-requires : goal.write_spare-requires
write_spare-requires c = all-item the_spare spare_is_written c.items-item-items.result.now c.args.spares.now c.loop-item.item-index c.item-item.result c.item-item.result c.items-item-items.ensures (omega arith) c.item-item.is c.requires
