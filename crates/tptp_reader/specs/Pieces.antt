-- The tokens of the program one by one.
use Rattle.std.specs.Prelude.{ℕ, List, [], ◌∷◌, Option, None, Some, Result, Ok, Err}
use Rattle.tptp_lex.specs.declared.tokens.LexFault.{LexFault}
use Rattle.tptp_lex.specs.Answers.{IsFault, OnlySpace}
use Rattle.tptp_reader.specs.declared.terminal.Piece.{Piece}
use Rattle.tptp_reader.specs.Terminals.{Placed, Follow}
use Rattle.tptp_reader.specs.TerminalView.{the_terminal}

abbrev pub placed : Piece → Placed
placed p = record { at = p.start; terminal = the_terminal p.terminal }

-- what stands first at or after the place
abbrev pub IsNextPiece : List ℕ → ℕ → Result (Option Piece) LexFault → Type 0
IsNextPiece text from (Ok (Some p)) = Follow text from (placed p ∷ []) p.end
IsNextPiece text from (Ok None) = OnlySpace text from
IsNextPiece text from (Err fault) = IsFault text from fault.offset
