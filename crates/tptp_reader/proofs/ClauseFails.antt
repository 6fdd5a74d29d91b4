-- Where the way over a clause goes wrong.
use Rattle.std.proofs.Common.{◌≡◌, ◌==◌, ◌||◌, ℕ, suc, Bool, true, false, List, [], ◌∷◌, None, Some, inl, inr, refl, sym, ◌∙◌, ap, subst}
use Rattle.std.proofs.lemmas.Bool.{false≢true}
use Rattle.tptp_reader.specs.declared.terminal.Piece.{Piece}
use Rattle.tptp_reader.specs.Terminals.{Terminal, Follow, open_round, close_round, tilde, bar}
use Rattle.tptp_reader.specs.TerminalView.{the_terminal}
use Rattle.tptp_reader.specs.Pieces.{placed}
use Rattle.tptp_reader.specs.Expecting.{Expected, this, a_closing, atom, literal, unsigned, literals_rest, clause, clause_open, clause_rest, Move, form, atom_move, literals_rest_move, step}
use Rattle.tptp_reader.specs.Failing.{Fails, FailsAfter, FailsAt, fails_at}
use Rattle.tptp_reader.proofs.FailLaws.{fails-next, fails-token, fails-as, fails-skip}
use Rattle.tptp_reader.proofs.FormulaFails.{before-step}
use Rattle.tptp_reader.proofs.SpanLaws.{opening-is, closing-is}

tilde-is : (x : Terminal) → (form x == 17) ≡ true → x ≡ tilde
tilde-is tilde e = refl
tilde-is _ e = absurd (false≢true e)

bar-is : (x : Terminal) → (form x == 4) ≡ true → x ≡ bar
bar-is bar e = refl
bar-is _ e = absurd (false≢true e)

-- ---- literals

unsigned-after : (modal : Bool) (text : List ℕ) (d : ℕ) (es : List Expected) (x : Terminal) (to : ℕ) → (form x == 0) ≡ false → FailsAfter modal text (step modal (atom d ∷ es) x) to → FailsAfter modal text (step modal (unsigned d ∷ es) x) to
unsigned-after modal text d es open_round to e h = absurd (false≢true (sym e))
unsigned-after modal text d es _ to e h = h

pub fails-bare_atom : {text : List ℕ} {p : Piece} (modal : Bool) (d : ℕ) (es : List Expected) → (form (the_terminal p.terminal) == 0) ≡ false → FailsAt modal text (atom d ∷ es) p → FailsAt modal text (unsigned d ∷ es) p
fails-bare_atom {text} {p} modal d es e (fails_at h) = fails_at (unsigned-after modal text d es (the_terminal p.terminal) p.end e h)

pub fails-bracketed_atom : {text : List ℕ} {p : Piece} (modal : Bool) (d : ℕ) (es : List Expected) → (form (the_terminal p.terminal) == 0) ≡ true → Fails modal text (atom (suc d) ∷ this a_closing (suc d) ∷ es) p.end → FailsAt modal text (unsigned d ∷ es) p
fails-bracketed_atom {p = p} modal d es e h = fails-token modal (unsigned d ∷ es) (opening-is (the_terminal p.terminal) e) (inr h)

literal-after : (modal : Bool) (text : List ℕ) (d : ℕ) (es : List Expected) (x : Terminal) (to : ℕ) → (form x == 17) ≡ false → FailsAfter modal text (step modal (unsigned d ∷ es) x) to → FailsAfter modal text (step modal (literal d ∷ es) x) to
literal-after modal text d es tilde to e h = absurd (false≢true (sym e))
literal-after modal text d es _ to e h = h

pub fails-positive : {text : List ℕ} {p : Piece} (modal : Bool) (d : ℕ) (es : List Expected) → (form (the_terminal p.terminal) == 17) ≡ false → FailsAt modal text (unsigned d ∷ es) p → FailsAt modal text (literal d ∷ es) p
fails-positive {text} {p} modal d es e (fails_at h) = fails_at (literal-after modal text d es (the_terminal p.terminal) p.end e h)

pub fails-negative : {text : List ℕ} {p : Piece} (modal : Bool) (d : ℕ) (es : List Expected) → (form (the_terminal p.terminal) == 17) ≡ true → Fails modal text (unsigned (suc d) ∷ es) p.end → FailsAt modal text (literal d ∷ es) p
fails-negative {p = p} modal d es e h = fails-token modal (literal d ∷ es) (tilde-is (the_terminal p.terminal) e) (inr h)

-- what goes wrong inside
pub fails-in_brackets : {text : List ℕ} {p start : Piece} (modal : Bool) (d inner : ℕ) (es : List Expected) → inner ≡ suc d → (form (the_terminal p.terminal) == 0) ≡ true → Follow text p.end (placed start ∷ []) start.end → FailsAt modal text (atom inner ∷ this a_closing (suc d) ∷ es) start → FailsAt modal text (unsigned d ∷ es) p
fails-in_brackets {text} {p} {start} modal d inner es k e f h = fails-bracketed_atom modal d es e (fails-next modal (atom (suc d) ∷ this a_closing (suc d) ∷ es) refl f (subst (λ n. FailsAt modal text (atom n ∷ this a_closing (suc d) ∷ es) start) k h))

pub fails-negated_atom : {text : List ℕ} {p start : Piece} (modal : Bool) (d inner : ℕ) (es : List Expected) → inner ≡ suc d → (form (the_terminal p.terminal) == 17) ≡ true → Follow text p.end (placed start ∷ []) start.end → FailsAt modal text (unsigned inner ∷ es) start → FailsAt modal text (literal d ∷ es) p
fails-negated_atom {text} {p} {start} modal d inner es k e f h = fails-negative modal d es e (fails-next modal (unsigned (suc d) ∷ es) refl f (subst (λ n. FailsAt modal text (unsigned n ∷ es) start) k h))

-- ---- behind a literal

pub fails-barred : {text : List ℕ} {p : Piece} (modal : Bool) (d : ℕ) (es : List Expected) → (form (the_terminal p.terminal) == 4) ≡ true → Fails modal text (literal d ∷ literals_rest d ∷ es) p.end → FailsAt modal text (literals_rest d ∷ es) p
fails-barred {p = p} modal d es e h = fails-token modal (literals_rest d ∷ es) (bar-is (the_terminal p.terminal) e) (inr h)

no-bar : (d : ℕ) (x : Terminal) → (form x == 4) ≡ false → literals_rest_move d x ≡ None
no-bar d bar e = absurd (false≢true (sym e))
no-bar d _ e = refl

pub fails-unbarred : {text : List ℕ} {p : Piece} (modal : Bool) (d : ℕ) (es : List Expected) → (form (the_terminal p.terminal) == 4) ≡ false → FailsAt modal text es p → FailsAt modal text (literals_rest d ∷ es) p
fails-unbarred {p = p} modal d es e h = fails-skip modal (literals_rest d) es refl (no-bar d (the_terminal p.terminal) e) h

-- ---- behind a clause's first bracket

marked-after : (modal : Bool) (text : List ℕ) (es : List Expected) (x : Terminal) (to : ℕ) → ((form x == 17) || (form x == 0)) ≡ true → FailsAfter modal text (step modal (literal 1 ∷ literals_rest 1 ∷ this a_closing 1 ∷ es) x) to → FailsAfter modal text (step modal (clause_open ∷ es) x) to
marked-after modal text es tilde to e h = h
marked-after modal text es open_round to e h = h
marked-after modal text es _ to e h = absurd (false≢true e)

pub fails-marked : {text : List ℕ} {p : Piece} (modal : Bool) (es : List Expected) → ((form (the_terminal p.terminal) == 17) || (form (the_terminal p.terminal) == 0)) ≡ true → FailsAt modal text (literal 1 ∷ literals_rest 1 ∷ this a_closing 1 ∷ es) p → FailsAt modal text (clause_open ∷ es) p
fails-marked {text} {p} modal es e (fails_at h) = fails_at (marked-after modal text es (the_terminal p.terminal) p.end e h)

opened-step : (modal : Bool) (es : List Expected) (x : Terminal) → ((form x == 17) || (form x == 0)) ≡ false → step modal (atom 1 ∷ clause_rest ∷ es) x ≡ step modal (clause_open ∷ es) x
opened-step modal es tilde e = absurd (false≢true (sym e))
opened-step modal es open_round e = absurd (false≢true (sym e))
opened-step modal es x e = before-step (atom_move 1 x) clause_rest es (step modal (clause_rest ∷ es) x) (step modal es x)

pub fails-opened : {text : List ℕ} {p : Piece} (modal : Bool) (es : List Expected) → ((form (the_terminal p.terminal) == 17) || (form (the_terminal p.terminal) == 0)) ≡ false → FailsAt modal text (atom 1 ∷ clause_rest ∷ es) p → FailsAt modal text (clause_open ∷ es) p
fails-opened {p = p} modal es e h = fails-as modal (atom 1 ∷ clause_rest ∷ es) (clause_open ∷ es) (opened-step modal es (the_terminal p.terminal) e) h

-- ---- behind the atom there

rest-step : (modal : Bool) (es : List Expected) (x : Terminal) → (form x == 11) ≡ true → step modal (this a_closing 1 ∷ literals_rest 0 ∷ es) x ≡ step modal (clause_rest ∷ es) x
rest-step modal es close_round e = refl
rest-step modal es _ e = absurd (false≢true e)

pub fails-outside : {text : List ℕ} {p : Piece} (modal : Bool) (es : List Expected) → (form (the_terminal p.terminal) == 11) ≡ true → FailsAt modal text (this a_closing 1 ∷ literals_rest 0 ∷ es) p → FailsAt modal text (clause_rest ∷ es) p
fails-outside {p = p} modal es e h = fails-as modal (this a_closing 1 ∷ literals_rest 0 ∷ es) (clause_rest ∷ es) (rest-step modal es (the_terminal p.terminal) e) h

inside-after : (modal : Bool) (text : List ℕ) (es : List Expected) (x : Terminal) (to : ℕ) → (form x == 11) ≡ false → FailsAfter modal text (step modal (literals_rest 1 ∷ this a_closing 1 ∷ es) x) to → FailsAfter modal text (step modal (clause_rest ∷ es) x) to
inside-after modal text es close_round to e h = absurd (false≢true (sym e))
inside-after modal text es bar to e h = h
inside-after modal text es _ to e h = tt

pub fails-inside : {text : List ℕ} {p : Piece} (modal : Bool) (es : List Expected) → (form (the_terminal p.terminal) == 11) ≡ false → FailsAt modal text (literals_rest 1 ∷ this a_closing 1 ∷ es) p → FailsAt modal text (clause_rest ∷ es) p
fails-inside {text} {p} modal es e (fails_at h) = fails_at (inside-after modal text es (the_terminal p.terminal) p.end e h)

-- ---- clauses

bare-step : (modal : Bool) (es : List Expected) (x : Terminal) → (form x == 0) ≡ false → step modal (literal 0 ∷ literals_rest 0 ∷ es) x ≡ step modal (clause ∷ es) x
bare-step modal es open_round e = absurd (false≢true (sym e))
bare-step modal es tilde e = refl
bare-step modal es x e = before-step (atom_move 0 x) (literals_rest 0) es (step modal (literals_rest 0 ∷ es) x) (step modal es x)

pub fails-bare_clause : {text : List ℕ} {p : Piece} (modal : Bool) (es : List Expected) → (form (the_terminal p.terminal) == 0) ≡ false → FailsAt modal text (literal 0 ∷ literals_rest 0 ∷ es) p → FailsAt modal text (clause ∷ es) p
fails-bare_clause {p = p} modal es e h = fails-as modal (literal 0 ∷ literals_rest 0 ∷ es) (clause ∷ es) (bare-step modal es (the_terminal p.terminal) e) h

pub fails-bracketed_clause : {text : List ℕ} {p : Piece} (modal : Bool) (es : List Expected) → (form (the_terminal p.terminal) == 0) ≡ true → Fails modal text (clause_open ∷ es) p.end → FailsAt modal text (clause ∷ es) p
fails-bracketed_clause {p = p} modal es e h = fails-token modal (clause ∷ es) (opening-is (the_terminal p.terminal) e) (inr h)
