use Rattle.std.proofs.Common.{arith}
use Rattle.calculus.specs.TableauText.{move_is_written}
use Rattle.tableau_text.proofs.MovesText.{all-item}
use Rattle.tableau_text.specs.MovesView.{the_move}
use Rattle.tableau_text.proofs.writer.write_moves.Goals as goal

pub write_move-requires : goal.write_move-requires
write_move-requires c = all-item (the_move c.args.table.now) (move_is_written c.args.symbols.now) c.args.moves.now c.loop-step.step-index c.step-item.result c.step-item.result (omega arith) c.step-item.is c.requires
