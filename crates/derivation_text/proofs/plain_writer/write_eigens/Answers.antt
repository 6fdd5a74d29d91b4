use Rattle.std.proofs.Common.{arith}
use Rattle.derivation_text.proofs.Items.{all-item}
use Rattle.derivation_text.specs.Written.{eigen_is_written}
use Rattle.sequent_calc.specs.NamesView.{the_eigen}
use Rattle.derivation_text.proofs.plain_writer.write_eigens.Goals as goal

pub write_eigen-requires : goal.write_eigen-requires
write_eigen-requires c = all-item the_eigen eigen_is_written c.items-item-items.result.now c.args.eigens.now c.loop-item.item-index c.item-item.result c.item-item.result c.items-item-items.ensures (omega arith) c.item-item.is c.requires
