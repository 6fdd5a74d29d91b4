-- The token as the grammar sees it that a token of the program stands for.
use Rattle.tptp_reader.specs.Terminals as t
use Rattle.std.specs.Prelude.{false}
use Rattle.tptp_reader.specs.Expecting.{name_in, without_quote}
use Rattle.tptp_reader.specs.declared.terminal.Terminal.{Terminal}
use Rattle.tptp_reader.specs.declared.terminal.Terminal.TheVariants as terminal

abbrev pub the_terminal : Terminal → t.Terminal
the_terminal (terminal.Lower w) = t.lower w.now
the_terminal (terminal.Upper w) = t.upper w.now
the_terminal (terminal.Quoted w) = t.quoted (name_in false (without_quote w.now))
the_terminal (terminal.Number w) = t.number w.now
the_terminal (terminal.Distinct w) = t.distinct w.now
the_terminal (terminal.Dollar w) = t.dollar w.now
the_terminal (terminal.Hash w) = t.hash w.now
the_terminal terminal.OpenRound = t.open_round
the_terminal terminal.CloseRound = t.close_round
the_terminal terminal.OpenSquare = t.open_square
the_terminal terminal.CloseSquare = t.close_square
the_terminal terminal.Comma = t.comma
the_terminal terminal.Dot = t.dot
the_terminal terminal.Colon = t.colon
the_terminal terminal.Tilde = t.tilde
the_terminal terminal.Exclamation = t.exclamation
the_terminal terminal.Question = t.question
the_terminal terminal.Ampersand = t.ampersand
the_terminal terminal.Bar = t.bar
the_terminal terminal.Implies = t.implies
the_terminal terminal.Implied = t.implied
the_terminal terminal.Equivalent = t.equivalent
the_terminal terminal.Inequivalent = t.inequivalent
the_terminal terminal.Nor = t.nor
the_terminal terminal.Nand = t.nand
the_terminal terminal.Equal = t.equal
the_terminal terminal.Unequal = t.unequal
