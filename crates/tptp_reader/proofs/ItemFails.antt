-- Where the way over an item goes wrong.
use Rattle.std.proofs.Common.{◌≡◌, ◌==◌, ◌&&◌, ℕ, suc, length, Bool, true, false, List, [], ◌∷◌, ◌++◌, Option, None, Some, inl, inr, refl, sym, ◌∙◌, ap, codes, subst, if◌then◌else◌}
use Rattle.std.specs.Prelude.{reverse}
use Rattle.std.proofs.lemmas.Bool.{false≢true}
use Rattle.std.proofs.lemmas.List.{length-reverse}
use Rattle.plain_laws.proofs.Options.{none_some}
use Rattle.tptp_lex.specs.Tokens.{is_digits}
use Rattle.tptp_reader.specs.declared.item.ItemKind.{ItemKind}
use Rattle.tptp_reader.specs.declared.item.ItemKind.TheVariants.{Fof, Cnf, Qmf}
use Rattle.tptp_reader.specs.declared.terminal.Piece.{Piece}
use Rattle.tptp_reader.specs.Terminals.{Terminal, lower, quoted, number, open_round, close_round, open_square, close_square, comma}
use Rattle.tptp_reader.specs.TerminalView.{the_terminal}
use Rattle.tptp_reader.specs.Expecting.{Expected, clause, formula, all_optional, this, an_opening, a_closing, a_square, a_lower, a_quoted, name, names_rest, items, after_body, first_note, notes, include_rest, Move, form, is_word, name_move, notes_move, items_move, word_move, this_move, head_of, moved, step}
use Rattle.tptp_reader.specs.ItemStanding.{kind_in, name_in, role_in, file_in, is_clause, is_include_word, is_square, note_after}
use Rattle.tptp_reader.specs.Failing.{Fails, FailsAfter, FailsAt, fails_at, body_part, dot_and_items}
use Rattle.tptp_reader.proofs.FailLaws.{IsSingle, this-single, fails-token, fails-as, fails-none, fails-move, fails-single, fails-other}
use Rattle.tptp_reader.proofs.ItemReading.{language_of, kind_fits, Kind, kind-found, include-is}
use Rattle.tptp_reader.proofs.SpanLaws.{comma-is, closing-is}

-- ---- single tokens

name-single : (x : Terminal) → IsSingle (name_move x)
name-single (lower w) = refl
name-single (quoted w) = refl
name-single (number w) = this-single (is_digits w) 0
name-single _ = tt

pub fails-name : {text : List ℕ} {p : Piece} (modal : Bool) (es : List Expected) → Fails modal text es p.end → FailsAt modal text (name ∷ es) p
fails-name {p = p} modal es h = fails-single modal name es refl (name-single (the_terminal p.terminal)) h

no-name : (x : Terminal) → name_in x ≡ None → name_move x ≡ None
no-name (lower w) e = absurd (none_some (sym e))
no-name (quoted w) e = absurd (none_some (sym e))
no-name (number w) e = by (is_digits w) refl e
  where
    by : (b : Bool) → is_digits w ≡ b → (if b then Some w else None) ≡ None → this_move (is_digits w) 0 ≡ None
    by true h q = absurd (none_some (sym q))
    by false h q = ap (λ b. this_move b 0) h
no-name _ e = refl

pub fails-no_name : {text : List ℕ} {p : Piece} (modal : Bool) (es : List Expected) → name_in (the_terminal p.terminal) ≡ None → FailsAt modal text (name ∷ es) p
fails-no_name {p = p} modal es e = fails-none modal name es refl (no-name (the_terminal p.terminal) e)

no-role : (x : Terminal) → role_in x ≡ None → (form x == 20) ≡ false
no-role (lower w) e = absurd (none_some (sym e))
no-role _ e = refl

pub fails-no_role : {text : List ℕ} {p : Piece} (modal : Bool) (es : List Expected) → role_in (the_terminal p.terminal) ≡ None → FailsAt modal text (this a_lower 0 ∷ es) p
fails-no_role {p = p} modal es e = fails-other modal a_lower 0 es (no-role (the_terminal p.terminal) e)

no-file : (x : Terminal) → file_in x ≡ None → (form x == 22) ≡ false
no-file (quoted w) e = absurd (none_some (sym e))
no-file _ e = refl

pub fails-no_file : {text : List ℕ} {p : Piece} (modal : Bool) (es : List Expected) → file_in (the_terminal p.terminal) ≡ None → FailsAt modal text (this a_quoted 0 ∷ es) p
fails-no_file {p = p} modal es e = fails-other modal a_quoted 0 es (no-file (the_terminal p.terminal) e)

-- ---- notes

pub fails-noted : {text : List ℕ} {p : Piece} (modal : Bool) (es : List Expected) → (form (the_terminal p.terminal) == 14) ≡ true → Fails modal text (first_note ∷ es) p.end → FailsAt modal text (after_body ∷ es) p
fails-noted {p = p} modal es e h = fails-token modal (after_body ∷ es) (comma-is (the_terminal p.terminal) e) (inr h)

unnoted-after : (modal : Bool) (text : List ℕ) (es : List Expected) (x : Terminal) (to : ℕ) → (form x == 14) ≡ false → FailsAfter modal text (step modal (this a_closing 0 ∷ es) x) to → FailsAfter modal text (step modal (after_body ∷ es) x) to
unnoted-after modal text es comma to e h = absurd (false≢true (sym e))
unnoted-after modal text es close_round to e h = h
unnoted-after modal text es _ to e h = tt

pub fails-unnoted : {text : List ℕ} {p : Piece} (modal : Bool) (es : List Expected) → (form (the_terminal p.terminal) == 14) ≡ false → FailsAt modal text (this a_closing 0 ∷ es) p → FailsAt modal text (after_body ∷ es) p
fails-unnoted {text} {p} modal es e (fails_at h) = fails_at (unnoted-after modal text es (the_terminal p.terminal) p.end e h)

first-after : (modal : Bool) (text : List ℕ) (es : List Expected) (x : Terminal) (to : ℕ) → (form x == 11) ≡ false → FailsAfter modal text (step modal (notes [] ∷ es) x) to → FailsAfter modal text (step modal (first_note ∷ es) x) to
first-after modal text es close_round to e h = absurd (false≢true (sym e))
first-after modal text es _ to e h = h

pub fails-first : {text : List ℕ} {p : Piece} (modal : Bool) (es : List Expected) → (form (the_terminal p.terminal) == 11) ≡ false → FailsAt modal text (notes [] ∷ es) p → FailsAt modal text (first_note ∷ es) p
fails-first {text} {p} modal es e (fails_at h) = fails_at (first-after modal text es (the_terminal p.terminal) p.end e h)

pub fails-no_first : {text : List ℕ} {p : Piece} (modal : Bool) (es : List Expected) → (form (the_terminal p.terminal) == 11) ≡ true → FailsAt modal text (first_note ∷ es) p
fails-no_first {p = p} modal es e = fails-token modal (first_note ∷ es) (closing-is (the_terminal p.terminal) e) tt

last-step : (modal : Bool) (es : List Expected) (x : Terminal) → (form x == 11) ≡ true → step modal (this a_closing 0 ∷ es) x ≡ step modal (notes [] ∷ es) x
last-step modal es close_round e = refl
last-step modal es _ e = absurd (false≢true e)

-- behind notes whose brackets are closed
pub fails-notes_end : {text : List ℕ} {p : Piece} (modal : Bool) (waiting : List Bool) (es : List Expected) → waiting ≡ [] → (form (the_terminal p.terminal) == 11) ≡ true → FailsAt modal text (this a_closing 0 ∷ es) p → FailsAt modal text (notes waiting ∷ es) p
fails-notes_end {text} {p} modal waiting es w e h =
    subst (λ z. FailsAt modal text (notes z ∷ es) p) (sym w) (fails-as modal (this a_closing 0 ∷ es) (notes [] ∷ es) (last-step modal es (the_terminal p.terminal) e) h)

-- where a token passes, or is a bracket that nothing waits for
note-after : (modal : Bool) (text : List ℕ) (w : List Bool) (es : List Expected) (x : Terminal) (to : ℕ) → (w ≡ [] → (form x == 11) ≡ true → ⊥) → ((v : List Bool) → note_after w x ≡ Some v → Fails modal text (notes v ∷ es) to) → FailsAfter modal text (step modal (notes w ∷ es) x) to
note-after modal text [] es open_round to n h = inr (h (true ∷ []) refl)
note-after modal text [] es open_square to n h = inr (h (false ∷ []) refl)
note-after modal text [] es close_round to n h = absurd (n refl refl)
note-after modal text [] es close_square to n h = tt
note-after modal text [] es _ to n h = inr (h [] refl)
note-after modal text (true ∷ w) es open_round to n h = inr (h (true ∷ true ∷ w) refl)
note-after modal text (true ∷ w) es open_square to n h = inr (h (false ∷ true ∷ w) refl)
note-after modal text (true ∷ w) es close_round to n h = inr (h w refl)
note-after modal text (true ∷ w) es close_square to n h = tt
note-after modal text (true ∷ w) es _ to n h = inr (h (true ∷ w) refl)
note-after modal text (false ∷ w) es open_round to n h = inr (h (true ∷ false ∷ w) refl)
note-after modal text (false ∷ w) es open_square to n h = inr (h (false ∷ false ∷ w) refl)
note-after modal text (false ∷ w) es close_round to n h = tt
note-after modal text (false ∷ w) es close_square to n h = inr (h w refl)
note-after modal text (false ∷ w) es _ to n h = inr (h (false ∷ w) refl)

pub fails-note : {text : List ℕ} {p : Piece} (modal : Bool) (waiting : List Bool) (es : List Expected) → (waiting ≡ [] → (form (the_terminal p.terminal) == 11) ≡ true → ⊥) → ((v : List Bool) → note_after waiting (the_terminal p.terminal) ≡ Some v → Fails modal text (notes v ∷ es) p.end)
    → FailsAt modal text (notes waiting ∷ es) p
fails-note {text} {p} modal waiting es n h = fails_at (note-after modal text waiting es (the_terminal p.terminal) p.end n h)

-- ---- includes

pub fails-selecting : {text : List ℕ} {p : Piece} (modal : Bool) (es : List Expected) → (form (the_terminal p.terminal) == 14) ≡ true → Fails modal text (this a_square 0 ∷ name ∷ names_rest ∷ es) p.end → FailsAt modal text (include_rest ∷ es) p
fails-selecting {p = p} modal es e h = fails-token modal (include_rest ∷ es) (comma-is (the_terminal p.terminal) e) (inr h)

unselected-after : (modal : Bool) (text : List ℕ) (es : List Expected) (x : Terminal) (to : ℕ) → (form x == 14) ≡ false → FailsAfter modal text (step modal (this a_closing 0 ∷ es) x) to → FailsAfter modal text (step modal (include_rest ∷ es) x) to
unselected-after modal text es comma to e h = absurd (false≢true (sym e))
unselected-after modal text es close_round to e h = h
unselected-after modal text es _ to e h = tt

pub fails-unselected : {text : List ℕ} {p : Piece} (modal : Bool) (es : List Expected) → (form (the_terminal p.terminal) == 14) ≡ false → FailsAt modal text (this a_closing 0 ∷ es) p → FailsAt modal text (include_rest ∷ es) p
fails-unselected {text} {p} modal es e (fails_at h) = fails_at (unselected-after modal text es (the_terminal p.terminal) p.end e h)

pub fails-more_names : {text : List ℕ} {p : Piece} (modal : Bool) (es : List Expected) → (form (the_terminal p.terminal) == 14) ≡ true → Fails modal text (name ∷ names_rest ∷ es) p.end → FailsAt modal text (names_rest ∷ es) p
fails-more_names {p = p} modal es e h = fails-token modal (names_rest ∷ es) (comma-is (the_terminal p.terminal) e) (inr h)

names-after : (modal : Bool) (text : List ℕ) (es : List Expected) (x : Terminal) (to : ℕ) → (form x == 14) ≡ false → (is_square x ≡ true → Fails modal text (this a_closing 0 ∷ es) to) → FailsAfter modal text (step modal (names_rest ∷ es) x) to
names-after modal text es comma to e h = absurd (false≢true (sym e))
names-after modal text es close_square to e h = inr (h refl)
names-after modal text es _ to e h = tt

pub fails-names_end : {text : List ℕ} {p : Piece} (modal : Bool) (es : List Expected) → (form (the_terminal p.terminal) == 14) ≡ false → (is_square (the_terminal p.terminal) ≡ true → Fails modal text (this a_closing 0 ∷ es) p.end) → FailsAt modal text (names_rest ∷ es) p
fails-names_end {text} {p} modal es e h = fails_at (names-after modal text es (the_terminal p.terminal) p.end e h)

-- ---- items

kind-move : (modal : Bool) (x : Terminal) (k : ItemKind) → Kind modal x k → items_move modal x ≡ Some (0, head_of (body_part k))
kind-move modal x k h = ap (items_move modal) h.word ∙ by modal k h.fits
  where
    by : (m : Bool) (l : ItemKind) → kind_fits m l ≡ true → items_move m (lower (language_of l)) ≡ Some (0, head_of (body_part l))
    by true Qmf f = refl
    by true Fof f = absurd (false≢true f)
    by true Cnf f = absurd (false≢true f)
    by false Fof f = refl
    by false Cnf f = refl
    by false Qmf f = absurd (false≢true f)

pub fails-kind : {text : List ℕ} {p : Piece} (modal : Bool) (k : ItemKind) → kind_in modal (the_terminal p.terminal) ≡ Some k → Fails modal text (head_of (body_part k)) p.end → FailsAt modal text (items ∷ []) p
fails-kind {p = p} modal k e h = fails-move modal items [] (0, head_of (body_part k)) (kind-move modal (the_terminal p.terminal) k (kind-found modal (the_terminal p.terminal) k e)) h

include-move : (modal : Bool) (x : Terminal) → x ≡ lower (codes "include") → items_move modal x ≡ Some (0, this an_opening 0 ∷ this a_quoted 0 ∷ include_rest ∷ dot_and_items)
include-move modal x e = ap (items_move modal) e

pub fails-include : {text : List ℕ} {p : Piece} (modal : Bool) → is_include_word (the_terminal p.terminal) ≡ true → Fails modal text (this an_opening 0 ∷ this a_quoted 0 ∷ include_rest ∷ dot_and_items) p.end → FailsAt modal text (items ∷ []) p
fails-include {p = p} modal e h = fails-move modal items [] (0, this an_opening 0 ∷ this a_quoted 0 ∷ include_rest ∷ dot_and_items) (include-move modal (the_terminal p.terminal) (include-is (the_terminal p.terminal) e)) h

-- a word that begins no item
no-choice : (i f c q : Bool) (x y : Move) → i ≡ false → q ≡ false → (if i then x else (if f then None else (if c then None else (if q then y else None)))) ≡ None
no-choice true f c q x y h k = absurd (false≢true (sym h))
no-choice false true c q x y h k = refl
no-choice false false true q x y h k = refl
no-choice false false false true x y h k = absurd (false≢true (sym k))
no-choice false false false false x y h k = refl

no-other : (i f c q : Bool) (x y z : Move) → i ≡ false → f ≡ false → c ≡ false → (if i then x else (if f then y else (if c then z else (if q then None else None)))) ≡ None
no-other true f c q x y z h k l = absurd (false≢true (sym h))
no-other false true c q x y z h k l = absurd (false≢true (sym k))
no-other false false true q x y z h k l = absurd (false≢true (sym l))
no-other false false false true x y z h k l = refl
no-other false false false false x y z h k l = refl

no-word : (modal : Bool) (w : List ℕ) → kind_in modal (lower w) ≡ None → is_word w (codes "include") ≡ false → word_move modal w ≡ None
no-word true w e i = no-choice (is_word w (codes "include")) (is_word w (codes "fof")) (is_word w (codes "cnf")) (is_word w (codes "qmf")) _ _ i (by (is_word w (codes "qmf")) e)
  where
    by : (b : Bool) → (if b then Some Qmf else None) ≡ None → b ≡ false
    by true q = absurd (none_some (sym q))
    by false q = refl
no-word false w e i =
    let q = by (is_word w (codes "fof")) (is_word w (codes "cnf")) e in
    no-other (is_word w (codes "include")) (is_word w (codes "fof")) (is_word w (codes "cnf")) (is_word w (codes "qmf")) _ _ _ i q.0 q.1
  where
    by : (a b : Bool) → (if a then Some Fof else (if b then Some Cnf else None)) ≡ None → (a ≡ false) × (b ≡ false)
    by true b q = absurd (none_some (sym q))
    by false true q = absurd (none_some (sym q))
    by false false q = (refl, refl)

no-item : (modal : Bool) (x : Terminal) → kind_in modal x ≡ None → is_include_word x ≡ false → items_move modal x ≡ None
no-item modal (lower w) e i = no-word modal w e i
no-item modal _ e i = refl

pub fails-no_item : {text : List ℕ} {p : Piece} (modal : Bool) → kind_in modal (the_terminal p.terminal) ≡ None → is_include_word (the_terminal p.terminal) ≡ false → FailsAt modal text (items ∷ []) p
fails-no_item {text} {p} modal e i =
    let x : Terminal = the_terminal p.terminal in
    fails_at (subst (λ z. FailsAfter modal text z p.end) (sym (ap (λ z. moved z true [] None) (no-item modal x e i))) tt)

-- ---- parts that go by the kind

pub body-busy : (k : ItemKind) (es : List Expected) → all_optional (body_part k ∷ after_body ∷ es) ≡ false
body-busy Fof es = refl
body-busy Cnf es = refl
body-busy Qmf es = refl

pub clause-part : (k : ItemKind) → is_clause k ≡ true → clause ≡ body_part k
clause-part Cnf e = refl
clause-part Fof e = absurd (false≢true e)
clause-part Qmf e = absurd (false≢true e)

pub formula-part : (k : ItemKind) → is_clause k ≡ false → formula 0 ≡ body_part k
formula-part Cnf e = absurd (false≢true (sym e))
formula-part Fof e = refl
formula-part Qmf e = refl

-- ---- brackets within notes

pub not-ended : (xs : List Bool) (b : Bool) → ((length xs == 0) && b) ≡ false → reverse xs ≡ [] → b ≡ true → ⊥
not-ended [] b e r h = false≢true (sym e ∙ h)
not-ended (x ∷ xs) b e r h = let k : suc (length xs) ≡ 0 = sym (length-reverse (x ∷ xs)) ∙ ap length r in cc
