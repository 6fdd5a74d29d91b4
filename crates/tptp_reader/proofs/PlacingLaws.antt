-- Tokens with their places that stand one behind another.
use Rattle.std.proofs.Common.{◌≡◌, ℕ, List, [], ◌∷◌, ◌++◌, refl, ap}
use Rattle.tptp_reader.specs.declared.terminal.Piece.{Piece}
use Rattle.tptp_reader.specs.Terminals.{Terminal, Placed, terminals, Follow}
use Rattle.tptp_reader.specs.TerminalView.{the_terminal}
use Rattle.tptp_reader.specs.Pieces.{placed}
use Rattle.tptp_reader.specs.Spans.{Span, nothing, one_more}
use Rattle.tptp_reader.specs.ItemStanding.{Placing, nothing_placed, one_placed}
use Rattle.tptp_reader.proofs.RunLaws.{follow-join}

pub placing-join : {text : List ℕ} {p q r : Piece} {ps qs : List Placed} → Placing text p ps q → Placing text q qs r → Placing text p (ps ++ qs) r
placing-join (nothing_placed p) t = t
placing-join {r = r} {qs = qs} (one_placed p q q' ps f s) t = one_placed p q r (ps ++ qs) f (placing-join s t)

-- one token
pub placing-one : {text : List ℕ} {p q : Piece} → Follow text p.end (placed q ∷ []) q.end → Placing text p (placed p ∷ []) q
placing-one {p = p} {q = q} f = one_placed p q q [] f (nothing_placed q)

pub placing-more : {text : List ℕ} {p q r : Piece} {ps : List Placed} → Follow text p.end (placed q ∷ []) q.end → Placing text q ps r → Placing text p (placed p ∷ ps) r
placing-more {p = p} {q = q} {r = r} {ps = ps} f s = one_placed p q r ps f s

-- the places of tokens that stand there
pub record Places (text : List ℕ) (p : Piece) (ts : List Terminal) (q : Piece) : Type 0 where
  pub tokens : List Placed
  pub written : terminals tokens ≡ ts
  pub stands : Placing text p tokens q

pub span-placed : {text : List ℕ} {p q : Piece} {ts : List Terminal} → Span text p ts q → Places text p ts q
span-placed (nothing p) = record { tokens = []; written = refl; stands = nothing_placed p }
span-placed (one_more p q r ts f s) =
    let t = span-placed s in
    record {
      tokens = placed p ∷ t.tokens;
      written = ap (λ z. the_terminal p.terminal ∷ z) t.written;
      stands = one_placed p q r t.tokens f t.stands;
    }

-- from a place on where the first of them follows
pub placing-follow : {text : List ℕ} {p q : Piece} {ps : List Placed} (from : ℕ) → Follow text from (placed p ∷ []) p.end → Placing text p ps q → Follow text from (ps ++ placed q ∷ []) q.end
placing-follow from g (nothing_placed p) = g
placing-follow from g (one_placed p q r ps f s) = follow-join g (placing-follow p.end f s)
