-- Tokens that stand one behind another, and how deep they are.
use Rattle.std.specs.Prelude.{◌≡◌, ℕ, List, [], ◌∷◌, true}
use Rattle.std.specs.List.{list_all}
use Rattle.tptp_reader.specs.declared.terminal.Piece.{Piece}
use Rattle.tptp_reader.specs.Terminals.{Terminal, Follow}
use Rattle.tptp_reader.specs.TerminalView.{the_terminal}
use Rattle.tptp_reader.specs.Pieces.{placed}
use Rattle.tptp_reader.specs.Following.{is_shallow}

-- From the token of the first piece on these tokens stand, and the last piece is the one behind them.
pub data Span (text : List ℕ) : Piece → List Terminal → Piece → Type 0 where
  nothing : (p : Piece) → Span text p [] p
  one_more : (p q r : Piece) (ts : List Terminal) → Follow text p.end (placed q ∷ []) q.end → Span text q ts r → Span text p (the_terminal p.terminal ∷ ts) r

-- none of these nestings is too great
abbrev pub AreRead : List ℕ → Type 0
AreRead ns = list_all is_shallow ns ≡ true
