use Rattle.tptp_reader.specs.TerminalView.{the_terminal}
use Rattle.tptp_reader.proofs.PieceLaws.{piece-here}
use Rattle.tptp_reader.proofs.terminal.next_piece.Goals as goal

pub returns-in-Ok-Some-clause-next : goal.returns-in-Ok-Some-clause-next
returns-in-Ok-Some-clause-next c =
    piece-here c.args.text.now c.args.from c.in-Ok-Some.token (the_terminal c.terminal_of-terminal.result) (rw c.in-Ok-Some.field-0-is at c.in-Ok-Some.ensures.answer) c.terminal_of-terminal.ensures
