-- Reading the notes of items, up to the dot.
use Rattle.std.proofs.Common.{◌≡◌, ◌==◌, Bool, true, false, ℕ, List, [], ◌∷◌, ◌++◌, None, Some, refl, sym, ◌∙◌, ap, append_assoc, append-nil, subst, length, arith}
use Rattle.std.specs.Prelude.{reverse}
use Rattle.std.proofs.lemmas.Bool.{eqb-true, false≢true}
use Rattle.plain_laws.proofs.Options.{none_some}
use Rattle.tptp_lex.proofs.Runs.{some-is}
use Rattle.tptp_reader.specs.declared.terminal.Piece.{Piece}
use Rattle.tptp_reader.specs.Terminals.{Terminal, open_round, close_round, open_square, close_square, dot, Follow}
use Rattle.tptp_reader.specs.TerminalView.{the_terminal}
use Rattle.tptp_reader.specs.Pieces.{placed}
use Rattle.tptp_reader.specs.Grammar.{closes}
use Rattle.tptp_reader.specs.Expecting.{form}
use Rattle.tptp_reader.specs.Spans.{Span, nothing, one_more}
use Rattle.tptp_reader.specs.ItemStanding.{note_after, DotRead, NotesUpTo, NotesRead, EndRead}
use Rattle.tptp_reader.proofs.SpanLaws.{span-one, span-more, span-join, comma-is}

-- notes that close what waits behind a token, and this token before them
note-passed : (w : List Bool) (x : Terminal) (v : List Bool) (back : List Terminal) → note_after w x ≡ Some v → closes v back ≡ true → closes w (x ∷ back) ≡ true
note-passed [] open_round v back h k = subst (λ z. closes z back ≡ true) (sym (some-is h)) k
note-passed [] open_square v back h k = subst (λ z. closes z back ≡ true) (sym (some-is h)) k
note-passed [] close_round v back h k = absurd (none_some h)
note-passed [] close_square v back h k = absurd (none_some h)
note-passed [] _ v back h k = subst (λ z. closes z back ≡ true) (sym (some-is h)) k
note-passed (true ∷ w) open_round v back h k = subst (λ z. closes z back ≡ true) (sym (some-is h)) k
note-passed (true ∷ w) open_square v back h k = subst (λ z. closes z back ≡ true) (sym (some-is h)) k
note-passed (true ∷ w) close_round v back h k = subst (λ z. closes z back ≡ true) (sym (some-is h)) k
note-passed (true ∷ w) close_square v back h k = absurd (none_some h)
note-passed (true ∷ w) _ v back h k = subst (λ z. closes z back ≡ true) (sym (some-is h)) k
note-passed (false ∷ w) open_round v back h k = subst (λ z. closes z back ≡ true) (sym (some-is h)) k
note-passed (false ∷ w) open_square v back h k = subst (λ z. closes z back ≡ true) (sym (some-is h)) k
note-passed (false ∷ w) close_round v back h k = absurd (none_some h)
note-passed (false ∷ w) close_square v back h k = subst (λ z. closes z back ≡ true) (sym (some-is h)) k
note-passed (false ∷ w) _ v back h k = subst (λ z. closes z back ≡ true) (sym (some-is h)) k

pub notes-begun : {text : List ℕ} (p : Piece) → NotesUpTo text p [] p
notes-begun p = record { notes = []; stands = nothing p; leads = λ back h. h }

pub notes-on : {text : List ℕ} {p here next : Piece} {w v : List Bool} → NotesUpTo text p w here → Follow text here.end (placed next ∷ []) next.end → note_after w (the_terminal here.terminal) ≡ Some v → NotesUpTo text p v next
notes-on {here = here} {w = w} {v = v} n f e =
    let x : Terminal = the_terminal here.terminal in
    record {
      notes = n.notes ++ x ∷ [];
      stands = span-join n.stands (span-one refl f);
      leads = λ back h. subst (λ z. closes [] z ≡ true) (sym (append_assoc n.notes (x ∷ []) back)) (n.leads (x ∷ back) (note-passed w x v back e h));
    }

-- no bracket waits
pub none-waiting : (xs : List Bool) → (length xs == 0) ≡ true → reverse xs ≡ []
none-waiting [] h = refl
none-waiting (x ∷ xs) h = let n : length (x ∷ xs) ≡ 0 = eqb-true (length (x ∷ xs)) 0 h in absurd (omega (arith, n))

pub notes-done : {text : List ℕ} {p here r : Piece} {w : List Bool} → NotesUpTo text p w here → w ≡ [] → DotRead text here r → NotesRead text p r
notes-done {w = w} n e d = record {
  notes = n.notes;
  closed = subst (λ z. closes [] z ≡ true) (append-nil n.notes) (n.leads [] (ap (λ z. closes z []) e));
  stands = span-join n.stands d.0;
  ends = d.1;
}

-- ---- what follows a formula

pub end-bare : {text : List ℕ} {p r : Piece} → DotRead text p r → EndRead text p r
end-bare d = record { notes = None; fits = refl; stands = d.0; ends = d.1 }

span-first : {text : List ℕ} {p q : Piece} {x : Terminal} {ts : List Terminal} → Span text p (x ∷ ts) q → the_terminal p.terminal ≡ x
span-first (one_more p q r ts f s) = refl

pub end-with : {text : List ℕ} {p first r : Piece} → (form (the_terminal p.terminal) == 14) ≡ true → Follow text p.end (placed first ∷ []) first.end → (form (the_terminal first.terminal) == 11) ≡ false → NotesRead text first r → EndRead text p r
end-with {text} {p} {first} {r} o f c n = by n.notes n.closed n.stands
  where
    by : (ts : List Terminal) → closes [] ts ≡ true → Span text first (ts ++ close_round ∷ []) r → EndRead text p r
    by [] h s = absurd (false≢true (sym c ∙ ap (λ z. form z == 11) (span-first s)))
    by (t ∷ ts) h s = record { notes = Some (t ∷ ts); fits = h; stands = span-more (comma-is (the_terminal p.terminal) o) f s; ends = n.ends }
