-- Tokens that stand one behind another.
use Rattle.std.proofs.Common.{◌≡◌, ◌==◌, ◌&&◌, ℕ, true, List, [], ◌∷◌, ◌++◌, refl, ◌∙◌, ap, subst}
use Rattle.std.specs.List.{list_all}
use Rattle.std.proofs.lemmas.Bool.{and_parts, false≢true}
use Rattle.tptp_reader.specs.declared.terminal.Piece.{Piece}
use Rattle.tptp_reader.specs.Terminals.{Terminal, open_round, close_round, open_square, close_square, comma, dot, colon, equal, unequal, Placed, terminals, Follow}
use Rattle.tptp_reader.specs.TerminalView.{the_terminal}
use Rattle.tptp_reader.specs.Pieces.{placed}
use Rattle.tptp_reader.specs.Expecting.{form}
use Rattle.tptp_reader.specs.Following.{is_shallow}
use Rattle.tptp_reader.specs.Spans.{Span, nothing, one_more, AreRead}
use Rattle.tptp_reader.proofs.RunLaws.{follow-join}

-- the same tokens, written in another way
pub span-same : {text : List ℕ} {p q : Piece} {ts us : List Terminal} → Span text p ts q → ts ≡ us → Span text p us q
span-same {text} {p} {q} s e = subst (λ z. Span text p z q) e s

-- this token
pub span-one : {text : List ℕ} {p q : Piece} {x : Terminal} → the_terminal p.terminal ≡ x → Follow text p.end (placed q ∷ []) q.end → Span text p (x ∷ []) q
span-one {p = p} {q = q} e f = span-same (one_more p q q [] f (nothing q)) (ap (λ z. z ∷ []) e)

-- this token, and those behind it
pub span-more : {text : List ℕ} {p q r : Piece} {x : Terminal} {ts : List Terminal} → the_terminal p.terminal ≡ x → Follow text p.end (placed q ∷ []) q.end → Span text q ts r → Span text p (x ∷ ts) r
span-more {p = p} {q = q} {r = r} {ts = ts} e f s = span-same (one_more p q r ts f s) (ap (λ z. z ∷ ts) e)

pub span-join : {text : List ℕ} {p q r : Piece} {ts us : List Terminal} → Span text p ts q → Span text q us r → Span text p (ts ++ us) r
span-join (nothing p) t = t
span-join {r = r} {us = us} (one_more p q q' ts f s) t = one_more p q r (ts ++ us) f (span-join s t)

-- the tokens with their places, from a place on where the first one follows
pub record SpanTokens (text : List ℕ) (p : Piece) (ts : List Terminal) (q : Piece) (from : ℕ) : Type 0 where
  pub tokens : List Placed
  pub written : terminals tokens ≡ ts
  pub there : Follow text from (tokens ++ placed q ∷ []) q.end

pub span-tokens : {text : List ℕ} {p q : Piece} {ts : List Terminal} (from : ℕ) → Follow text from (placed p ∷ []) p.end → Span text p ts q → SpanTokens text p ts q from
span-tokens from g (nothing p) = record { tokens = []; written = refl; there = g }
span-tokens from g (one_more p q q' ts f s) =
    let r = span-tokens p.end f s in
    record {
      tokens = placed p ∷ r.tokens;
      written = ap (λ z. the_terminal p.terminal ∷ z) r.written;
      there = follow-join g r.there;
    }

-- ---- nestings

-- one more
pub read-more : (n : ℕ) (ns : List ℕ) → is_shallow n ≡ true → AreRead ns → AreRead (n ∷ ns)
read-more n ns e a = ap (λ z. z && list_all is_shallow ns) e ∙ a

-- the first one
pub read-first : (n : ℕ) (ns : List ℕ) → AreRead (n ∷ ns) → is_shallow n ≡ true
read-first n ns a = let q = and_parts (is_shallow n) (list_all is_shallow ns) a in q.0

-- nestings one behind another
pub read-join : (ms ns : List ℕ) → AreRead ms → AreRead ns → AreRead (ms ++ ns)
read-join [] ns a b = b
read-join (m ∷ ms) ns a b = let q = and_parts (is_shallow m) (list_all is_shallow ms) a in read-more m (ms ++ ns) q.0 (read-join ms ns q.1 b)

-- ---- tokens of one form

pub opening-is : (x : Terminal) → (form x == 0) ≡ true → x ≡ open_round
opening-is open_round e = refl
opening-is _ e = absurd (false≢true e)

pub equal-is : (x : Terminal) → (form x == 1) ≡ true → x ≡ equal
equal-is equal e = refl
equal-is _ e = absurd (false≢true e)

pub unequal-is : (x : Terminal) → (form x == 2) ≡ true → x ≡ unequal
unequal-is unequal e = refl
unequal-is _ e = absurd (false≢true e)

pub closing-is : (x : Terminal) → (form x == 11) ≡ true → x ≡ close_round
closing-is close_round e = refl
closing-is _ e = absurd (false≢true e)

pub square-is : (x : Terminal) → (form x == 12) ≡ true → x ≡ open_square
square-is open_square e = refl
square-is _ e = absurd (false≢true e)

pub square-end-is : (x : Terminal) → (form x == 13) ≡ true → x ≡ close_square
square-end-is close_square e = refl
square-end-is _ e = absurd (false≢true e)

pub comma-is : (x : Terminal) → (form x == 14) ≡ true → x ≡ comma
comma-is comma e = refl
comma-is _ e = absurd (false≢true e)

pub dot-is : (x : Terminal) → (form x == 15) ≡ true → x ≡ dot
dot-is dot e = refl
dot-is _ e = absurd (false≢true e)

pub colon-is : (x : Terminal) → (form x == 16) ≡ true → x ≡ colon
colon-is colon e = refl
colon-is _ e = absurd (false≢true e)
