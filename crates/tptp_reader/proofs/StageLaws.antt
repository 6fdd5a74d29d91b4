-- Where a text stands behind its first tokens, by the stack of what is expected: where an item may begin, in the head of
-- one, in its formula, or behind that. So the stack tells the place of the next token.
use Rattle.std.proofs.Common.{◌≡◌, ◌==◌, ◌⊎◌, ◌&&◌, ◌||◌, ℕ, Bool, true, false, List, [], ◌∷◌, ◌++◌, None, Some, inl, inr, refl, sym, ◌∙◌, ap, append_assoc, append-nil, subst, IsTrue}
use Rattle.std.specs.Prelude.{codes, if◌then◌else◌}
use Rattle.std.specs.List.{list_all}
use Rattle.std.proofs.lemmas.Bool.{and_parts, and_from, false≢true, and_right}
use Rattle.std.proofs.lemmas.List.Folds.{list_all-append}
use Rattle.plain_laws.proofs.Options.{none_some}
use Rattle.tptp_lex.proofs.Runs.{some-is}
use Rattle.tptp_lex.specs.Tokens.{is_digits}
use Rattle.tptp_reader.specs.Terminals.{Terminal, lower, quoted, number, open_round, close_round, open_square, close_square, comma}
use Rattle.tptp_reader.specs.Grammar.{plain, in_quotes, NameTree, word_name, number_name, name_fits, name_token, head_tokens, text_tokens}
use Rattle.tptp_reader.specs.Faults.{Language, TextLanguage, FormulaLanguage, ClauseLanguage, IsWhole, StandsIn, InFormula, at_item, in_formula, elsewhere, IsPlace}
use Rattle.tptp_reader.specs.Expecting.{Expected, Fixed, an_opening, a_comma, a_dot, a_lower, a_quoted, form, form_of, this, formula, stop, clause, items, name, after_body, first_note, notes, include_rest, names_rest, Move, move, moved, is_optional, step, run, run_after, head_of, is_word, this_move, stop_move, name_move, after_body_move, items_move, notes_move, first_note_move, include_rest_move, names_rest_move, is_part, are_parts, is_after_body, is_in_body, is_items, is_at_item}
use Rattle.tptp_reader.proofs.FormulaForms.{word-is}
use Rattle.tptp_reader.proofs.FollowLaws.{IsReadBy, formula-read, clause-read}
use Rattle.tptp_reader.proofs.ExactLaws.{IsWrittenBy, formula-written, clause-written, ends-whole, text-written}
use Rattle.tptp_reader.proofs.StackLaws.{Above, above-step, behind_body, items-now, in-formula-stack}
use Rattle.tptp_reader.proofs.Deciding.{stop-goes}
use Rattle.tptp_reader.proofs.LiftLaws.{SameStep, same-step}
use Rattle.tptp_reader.proofs.RunLaws.{run-behind, run-join, single-run}
use Rattle.tptp_reader.proofs.SpanLaws.{opening-is, comma-is}
use Rattle.tptp_reader.specs.Following.{place_now}

-- ---- one step

this-step : (modal : Bool) (k : Fixed) (d : ℕ) (es : List Expected) (x : Terminal) (r : ℕ × List Expected) → step modal (this k d ∷ es) x ≡ Some r → (r.1 ≡ es) × ((form x == form_of k) ≡ true)
this-step modal k d es x r e = by (form x == form_of k) refl e
  where
    by : (b : Bool) → (form x == form_of k) ≡ b → moved (this_move b d) false es (step modal es x) ≡ Some r → (r.1 ≡ es) × ((form x == form_of k) ≡ true)
    by true h z = (ap (λ p. p.1) (sym (some-is z)), h)
    by false h z = absurd (none_some z)

lower-is : (x : Terminal) → (form x == 20) ≡ true → (w : List ℕ) × (x ≡ lower w)
lower-is (lower w) h = (w, refl)
lower-is _ h = absurd (false≢true h)

name-there : (modal : Bool) (es : List Expected) (x : Terminal) (r : ℕ × List Expected) → step modal (name ∷ es) x ≡ Some r → (n : NameTree) × IsTrue (name_fits n) × (x ≡ name_token n) × (r.1 ≡ es)
name-there modal es (lower w) r e = (word_name (plain w), refl, refl, ap (λ p. p.1) (sym (some-is e)))
name-there modal es (quoted w) r e = (word_name (in_quotes w), refl, refl, ap (λ p. p.1) (sym (some-is e)))
name-there modal es (number w) r e = by (is_digits w) refl e
  where
    by : (b : Bool) → is_digits w ≡ b → moved (this_move b 0) false es (step modal es (number w)) ≡ Some r → (n : NameTree) × IsTrue (name_fits n) × (number w ≡ name_token n) × (r.1 ≡ es)
    by true h z = (number_name w, h, refl, ap (λ p. p.1) (sym (some-is z)))
    by false h z = absurd (none_some z)
name-there modal es _ r e = absurd (none_some e)

-- ---- the kinds of items with a formula

data Kind : Type 0 where
  a_fof a_cnf a_qmf : Kind

abbrev is_modal : Kind → Bool
is_modal a_qmf = true
is_modal _ = false

abbrev word_of : Kind → List ℕ
word_of a_fof = codes "fof"
word_of a_cnf = codes "cnf"
word_of a_qmf = codes "qmf"

abbrev part_of : Kind → Expected
part_of a_cnf = clause
part_of _ = formula 0

abbrev language_of : Kind → Language
language_of a_fof = FormulaLanguage false
language_of a_cnf = ClauseLanguage
language_of a_qmf = FormulaLanguage true

part-is : (k : Kind) → is_part (part_of k) ≡ true
part-is a_fof = refl
part-is a_cnf = refl
part-is a_qmf = refl

read-of : (modal : Bool) (k : Kind) → modal ≡ is_modal k → IsReadBy modal (language_of k) (part_of k ∷ stop ∷ [])
read-of modal a_fof e = subst (λ m. IsReadBy m (FormulaLanguage false) (formula 0 ∷ stop ∷ [])) (sym e) (formula-read false)
read-of modal a_cnf e = clause-read modal
read-of modal a_qmf e = subst (λ m. IsReadBy m (FormulaLanguage true) (formula 0 ∷ stop ∷ [])) (sym e) (formula-read true)

written-of : (modal : Bool) (k : Kind) → modal ≡ is_modal k → IsWrittenBy modal (language_of k) (part_of k ∷ stop ∷ [])
written-of modal a_fof e = subst (λ m. IsWrittenBy m (FormulaLanguage false) (formula 0 ∷ stop ∷ [])) (sym e) (formula-written false)
written-of modal a_cnf e = clause-written modal
written-of modal a_qmf e = subst (λ m. IsWrittenBy m (FormulaLanguage true) (formula 0 ∷ stop ∷ [])) (sym e) (formula-written true)

in-of : (modal : Bool) (k : Kind) → modal ≡ is_modal k → (front : List Terminal) → StandsIn modal (word_of k) (language_of k) front → InFormula modal front
in-of modal a_fof e front s = subst (λ m. InFormula m front) (sym e) (inl (subst (λ m. StandsIn m (word_of a_fof) (language_of a_fof) front) e s))
in-of modal a_cnf e front s = subst (λ m. InFormula m front) (sym e) (inr (subst (λ m. StandsIn m (word_of a_cnf) (language_of a_cnf) front) e s))
in-of modal a_qmf e front s = subst (λ m. InFormula m front) (sym e) (subst (λ m. StandsIn m (word_of a_qmf) (language_of a_qmf) front) e s)

-- ---- what stands behind a formula, or in an include

abbrev is_tail_part : Expected → Bool
is_tail_part (this k d) = true
is_tail_part name = true
is_tail_part first_note = true
is_tail_part (notes w) = true
is_tail_part include_rest = true
is_tail_part names_rest = true
is_tail_part _ = false

abbrev Tail : List Expected → Type 0
Tail es = (above : List Expected) × IsTrue (list_all is_tail_part above) × (es ≡ above ++ this a_dot 0 ∷ items ∷ [])

tail-kept : {n : ℕ} {new : List Expected} {r : ℕ × List Expected} → Some (n, new) ≡ Some r → list_all is_tail_part new ≡ true → list_all is_tail_part r.1 ≡ true
tail-kept e h = subst (λ (z : ℕ × List Expected). list_all is_tail_part z.1 ≡ true) (some-is e) h

flag-tail : (b : Bool) (d : ℕ) (r : ℕ × List Expected) → this_move b d ≡ Some r → list_all is_tail_part r.1 ≡ true
flag-tail true d r e = tail-kept e refl
flag-tail false d r e = absurd (none_some e)

name-tail : (x : Terminal) (r : ℕ × List Expected) → name_move x ≡ Some r → list_all is_tail_part r.1 ≡ true
name-tail (lower w) r e = tail-kept e refl
name-tail (quoted w) r e = tail-kept e refl
name-tail (number w) r e = flag-tail (is_digits w) 0 r e
name-tail _ r e = absurd (none_some e)

notes-tail : (w : List Bool) (x : Terminal) (r : ℕ × List Expected) → notes_move w x ≡ Some r → list_all is_tail_part r.1 ≡ true
notes-tail [] open_round r e = tail-kept e refl
notes-tail [] open_square r e = tail-kept e refl
notes-tail [] close_round r e = tail-kept e refl
notes-tail [] close_square r e = absurd (none_some e)
notes-tail [] _ r e = tail-kept e refl
notes-tail (true ∷ w) open_round r e = tail-kept e refl
notes-tail (true ∷ w) open_square r e = tail-kept e refl
notes-tail (true ∷ w) close_round r e = tail-kept e refl
notes-tail (true ∷ w) close_square r e = absurd (none_some e)
notes-tail (true ∷ w) _ r e = tail-kept e refl
notes-tail (false ∷ w) open_round r e = tail-kept e refl
notes-tail (false ∷ w) open_square r e = tail-kept e refl
notes-tail (false ∷ w) close_round r e = absurd (none_some e)
notes-tail (false ∷ w) close_square r e = tail-kept e refl
notes-tail (false ∷ w) _ r e = tail-kept e refl

first-tail : (x : Terminal) (r : ℕ × List Expected) → first_note_move x ≡ Some r → list_all is_tail_part r.1 ≡ true
first-tail close_round r e = absurd (none_some e)
first-tail x r e = notes-tail [] x r e

include-tail : (x : Terminal) (r : ℕ × List Expected) → include_rest_move x ≡ Some r → list_all is_tail_part r.1 ≡ true
include-tail comma r e = tail-kept e refl
include-tail close_round r e = tail-kept e refl
include-tail _ r e = absurd (none_some e)

names-tail : (x : Terminal) (r : ℕ × List Expected) → names_rest_move x ≡ Some r → list_all is_tail_part r.1 ≡ true
names-tail comma r e = tail-kept e refl
names-tail close_square r e = tail-kept e refl
names-tail _ r e = absurd (none_some e)

tail-move : (modal : Bool) (e : Expected) (x : Terminal) (r : ℕ × List Expected) → is_tail_part e ≡ true → move modal e x ≡ Some r → list_all is_tail_part r.1 ≡ true
tail-move modal (this k d) x r h z = flag-tail (form x == form_of k) d r z
tail-move modal name x r h z = name-tail x r z
tail-move modal first_note x r h z = first-tail x r z
tail-move modal (notes w) x r h z = notes-tail w x r z
tail-move modal include_rest x r h z = include-tail x r z
tail-move modal names_rest x r h z = names-tail x r z
tail-move modal _ x r h z = absurd (false≢true h)

tail-needed : (e : Expected) → is_tail_part e ≡ true → is_optional e ≡ false
tail-needed (this k d) h = refl
tail-needed name h = refl
tail-needed first_note h = refl
tail-needed (notes w) h = refl
tail-needed include_rest h = refl
tail-needed names_rest h = refl
tail-needed _ h = absurd (false≢true h)

tail-no-body : (e : Expected) → is_tail_part e ≡ true → is_after_body e ≡ false
tail-no-body after_body h = absurd (false≢true h)
tail-no-body _ h = refl

tail-step : (modal : Bool) (above : List Expected) (x : Terminal) (r : ℕ × List Expected) → list_all is_tail_part above ≡ true → step modal (above ++ this a_dot 0 ∷ items ∷ []) x ≡ Some r → Tail r.1 ⊎ (r.1 ≡ items ∷ [])
tail-step modal [] x r h z = inr (this-step modal a_dot 0 (items ∷ []) x r z).0
tail-step modal (e ∷ above) x r h z =
    let p = and_parts (is_tail_part e) (list_all is_tail_part above) h in
    by p.0 p.1 (move modal e x) refl (is_optional e) (tail-needed e p.0) z
  where
    by : is_tail_part e ≡ true → list_all is_tail_part above ≡ true → (m : Move) → move modal e x ≡ m → (o : Bool) → o ≡ false → moved m o (above ++ this a_dot 0 ∷ items ∷ []) (step modal (above ++ this a_dot 0 ∷ items ∷ []) x) ≡ Some r → Tail r.1 ⊎ (r.1 ≡ items ∷ [])
    by a b (Some q) d o t k =
        inl (
          q.1 ++ above,
          list_all-append is_tail_part q.1 above ∙ and_from (list_all is_tail_part q.1) (list_all is_tail_part above) (tail-move modal e x q a d) b,
          ap (λ p. p.1) (sym (some-is k)) ∙ sym (append_assoc q.1 above (this a_dot 0 ∷ items ∷ [])),
        )
    by a b None d true t k = absurd (false≢true (sym t))
    by a b None d false t k = absurd (none_some k)

or-false : (a b : Bool) → a ≡ false → b ≡ false → (a || b) ≡ false
or-false true b p q = absurd (false≢true (sym p))
or-false false b p q = q

tail-elsewhere : (above : List Expected) → list_all is_tail_part above ≡ true → is_in_body (above ++ this a_dot 0 ∷ items ∷ []) ≡ false
tail-elsewhere [] h = refl
tail-elsewhere (e ∷ above) h =
    let p = and_parts (is_tail_part e) (list_all is_tail_part above) h in
    or-false (is_after_body e) (is_part e && is_in_body (above ++ this a_dot 0 ∷ items ∷ [])) (tail-no-body e p.0) (and_right (is_part e) (is_in_body (above ++ this a_dot 0 ∷ items ∷ [])) (tail-elsewhere above p.1))

-- ---- the end of a formula

not-nothing : {A : Type 0} (xs : List A) (y : A) (ys : List A) → xs ++ y ∷ ys ≡ [] → ⊥
not-nothing [] y ys e = cc
not-nothing (x ∷ xs) y ys e = cc

stop-tail : (modal : Bool) (x : Terminal) (r s : ℕ × List Expected) → stop_move x ≡ Some r → moved (after_body_move x) false (this a_dot 0 ∷ items ∷ []) (step modal (this a_dot 0 ∷ items ∷ []) x) ≡ Some s → Tail s.1
stop-tail modal comma r s e h = (first_note ∷ [], refl, ap (λ p. p.1) (sym (some-is h)))
stop-tail modal close_round r s e h = ([], refl, ap (λ p. p.1) (sym (some-is h)))
stop-tail modal _ r s e h = absurd (none_some e)

stop-step : (modal : Bool) (above : List Expected) (x : Terminal) (r s : ℕ × List Expected) → step modal (above ++ stop ∷ []) x ≡ Some r → r.1 ≡ [] → step modal (above ++ behind_body) x ≡ Some s → Tail s.1
stop-step modal [] x r s e n h = by (stop_move x) refl e
  where
    by : (m : Move) → stop_move x ≡ m → moved m false [] None ≡ Some r → Tail s.1
    by None d k = absurd (none_some k)
    by (Some q) d k = stop-tail modal x q s d h
stop-step modal (e ∷ above) x r s z n h = by (move modal e x) (is_optional e) (λ a b. stop-step modal above x r s a n b) z h
  where
    by : (m : Move) (o : Bool) → (step modal (above ++ stop ∷ []) x ≡ Some r → step modal (above ++ behind_body) x ≡ Some s → Tail s.1) → moved m o (above ++ stop ∷ []) (step modal (above ++ stop ∷ []) x) ≡ Some r → moved m o (above ++ behind_body) (step modal (above ++ behind_body) x) ≡ Some s → Tail s.1
    by (Some q) o next k l = absurd (not-nothing (q.1 ++ above) stop [] (append_assoc q.1 above (stop ∷ []) ∙ ap (λ p. p.1) (some-is k) ∙ n))
    by None true next k l = next k l
    by None false next k l = absurd (none_some k)

-- ---- stages

-- the tokens of an item's head that stand there, and what is expected behind them
data Head (k : Kind) (done : List Terminal) (rest : List Expected) : Type 0 where
  h_word : done ≡ lower (word_of k) ∷ [] → rest ≡ head_of (part_of k) → Head k done rest
  h_open : done ≡ lower (word_of k) ∷ open_round ∷ [] → rest ≡ name ∷ this a_comma 0 ∷ this a_lower 0 ∷ this a_comma 0 ∷ part_of k ∷ behind_body → Head k done rest
  h_name : (n : NameTree) → IsTrue (name_fits n) → done ≡ lower (word_of k) ∷ open_round ∷ name_token n ∷ [] → rest ≡ this a_comma 0 ∷ this a_lower 0 ∷ this a_comma 0 ∷ part_of k ∷ behind_body → Head k done rest
  h_comma : (n : NameTree) → IsTrue (name_fits n) → done ≡ lower (word_of k) ∷ open_round ∷ name_token n ∷ comma ∷ [] → rest ≡ this a_lower 0 ∷ this a_comma 0 ∷ part_of k ∷ behind_body → Head k done rest
  h_role : (n : NameTree) (role : List ℕ) → IsTrue (name_fits n) → done ≡ lower (word_of k) ∷ open_round ∷ name_token n ∷ comma ∷ lower role ∷ [] → rest ≡ this a_comma 0 ∷ part_of k ∷ behind_body → Head k done rest

data Stage (modal : Bool) (front : List Terminal) (now : List Expected) : Type 0 where
  s_items : now ≡ items ∷ [] → Stage modal front now
  s_head : (k : Kind) → modal ≡ is_modal k → (before done : List Terminal) → IsWhole (TextLanguage modal) before → front ≡ before ++ done → Head k done now → Stage modal front now
  s_part : (k : Kind) → modal ≡ is_modal k → (before : List Terminal) (n : NameTree) (role : List ℕ) (inside : List Terminal) (above : List Expected) (nestings : List ℕ) → IsWhole (TextLanguage modal) before → IsTrue (name_fits n) → front ≡ before ++ (head_tokens (word_of k) n role ++ inside)
      → run modal (part_of k ∷ stop ∷ []) inside ≡ Some (nestings, above ++ stop ∷ []) → are_parts above ≡ true → now ≡ above ++ behind_body → Stage modal front now
  s_tail : Tail now → Stage modal front now

-- ---- from an item's beginning on

word-stage : (modal i f c m : Bool) (w : List ℕ) (front : List Terminal) (q : ℕ × List Expected) → IsWhole (TextLanguage modal) front → is_word w (codes "fof") ≡ f → is_word w (codes "cnf") ≡ c → is_word w (codes "qmf") ≡ m
    → (if i then Some (0, this an_opening 0 ∷ this a_quoted 0 ∷ include_rest ∷ this a_dot 0 ∷ items ∷ [])
    else (if f then (if modal then None else Some (0, head_of (formula 0)))
    else (if c then (if modal then None else Some (0, head_of clause))
    else (if m then (if modal then Some (0, head_of (formula 0)) else None)
    else None)))) ≡ Some q → Stage modal (front ++ lower w ∷ []) (q.1 ++ [])
word-stage modal true f c m w front q t a b d e = s_tail (this an_opening 0 ∷ this a_quoted 0 ∷ include_rest ∷ [], refl, ap (λ p. p.1 ++ []) (sym (some-is e)))
word-stage true false true c m w front q t a b d e = absurd (none_some e)
word-stage false false true c m w front q t a b d e = s_head a_fof refl front (lower w ∷ []) t refl (h_word (ap (λ z. lower z ∷ []) (word-is w (codes "fof") a)) (ap (λ p. p.1 ++ []) (sym (some-is e))))
word-stage true false false true m w front q t a b d e = absurd (none_some e)
word-stage false false false true m w front q t a b d e = s_head a_cnf refl front (lower w ∷ []) t refl (h_word (ap (λ z. lower z ∷ []) (word-is w (codes "cnf") b)) (ap (λ p. p.1 ++ []) (sym (some-is e))))
word-stage true false false false true w front q t a b d e = s_head a_qmf refl front (lower w ∷ []) t refl (h_word (ap (λ z. lower z ∷ []) (word-is w (codes "qmf") d)) (ap (λ p. p.1 ++ []) (sym (some-is e))))
word-stage false false false false true w front q t a b d e = absurd (none_some e)
word-stage modal false false false false w front q t a b d e = absurd (none_some e)

items-stage : (modal : Bool) (x : Terminal) (front : List Terminal) (q : ℕ × List Expected) → IsWhole (TextLanguage modal) front → items_move modal x ≡ Some q → Stage modal (front ++ x ∷ []) (q.1 ++ [])
items-stage modal (lower w) front q t e = word-stage modal (is_word w (codes "include")) (is_word w (codes "fof")) (is_word w (codes "cnf")) (is_word w (codes "qmf")) w front q t refl refl refl e
items-stage modal _ front q t e = absurd (none_some e)

first-stage : (modal : Bool) (x : Terminal) (front : List Terminal) (r : ℕ × List Expected) → IsWhole (TextLanguage modal) front → step modal (items ∷ []) x ≡ Some r → Stage modal (front ++ x ∷ []) r.1
first-stage modal x front r t h = by (items_move modal x) refl h
  where
    by : (m : Move) → items_move modal x ≡ m → moved m true [] None ≡ Some r → Stage modal (front ++ x ∷ []) r.1
    by None d k = absurd (none_some k)
    by (Some q) d k = subst (λ (z : ℕ × List Expected). Stage modal (front ++ x ∷ []) z.1) (some-is k) (items-stage modal x front q t d)

-- ---- through the head of an item

further : (front before done : List Terminal) (x : Terminal) → front ≡ before ++ done → front ++ x ∷ [] ≡ before ++ (done ++ x ∷ [])
further front before done x e = ap (λ z. z ++ x ∷ []) e ∙ append_assoc before done (x ∷ [])

at-now : (modal : Bool) (x : Terminal) {now rest : List Expected} {r : ℕ × List Expected} → step modal now x ≡ Some r → now ≡ rest → step modal rest x ≡ Some r
at-now modal x h e = ap (λ z. step modal z x) (sym e) ∙ h

head-step : (modal : Bool) (x : Terminal) (front : List Terminal) (now : List Expected) (r : ℕ × List Expected) (k : Kind) → modal ≡ is_modal k → (before done : List Terminal) → IsWhole (TextLanguage modal) before → front ≡ before ++ done → Head k done now → step modal now x ≡ Some r → Stage modal (front ++ x ∷ []) r.1
head-step modal x front now r k e before done t f (h_word a b) z =
    let s = this-step modal an_opening 0 (name ∷ this a_comma 0 ∷ this a_lower 0 ∷ this a_comma 0 ∷ part_of k ∷ behind_body) x r (at-now modal x z b) in
    s_head k e before (done ++ x ∷ []) t (further front before done x f) (h_open (λ i. a i ++ opening-is x s.1 i ∷ []) s.0)
head-step modal x front now r k e before done t f (h_open a b) z =
    let s = name-there modal (this a_comma 0 ∷ this a_lower 0 ∷ this a_comma 0 ∷ part_of k ∷ behind_body) x r (at-now modal x z b) in
    s_head k e before (done ++ x ∷ []) t (further front before done x f) (h_name s.0 s.1 (λ i. a i ++ s.2 i ∷ []) s.3)
head-step modal x front now r k e before done t f (h_name n g a b) z =
    let s = this-step modal a_comma 0 (this a_lower 0 ∷ this a_comma 0 ∷ part_of k ∷ behind_body) x r (at-now modal x z b) in
    s_head k e before (done ++ x ∷ []) t (further front before done x f) (h_comma n g (λ i. a i ++ comma-is x s.1 i ∷ []) s.0)
head-step modal x front now r k e before done t f (h_comma n g a b) z =
    let s = this-step modal a_lower 0 (this a_comma 0 ∷ part_of k ∷ behind_body) x r (at-now modal x z b) in
    let w = lower-is x s.1 in
    s_head k e before (done ++ x ∷ []) t (further front before done x f) (h_role n w.0 g (λ i. a i ++ w.1 i ∷ []) s.0)
head-step modal x front now r k e before done t f (h_role n role g a b) z =
    let s = this-step modal a_comma 0 (part_of k ∷ behind_body) x r (at-now modal x z b) in
    let c : done ++ x ∷ [] ≡ head_tokens (word_of k) n role ++ [] = λ i. a i ++ comma-is x s.1 i ∷ [] in
    s_part k e before n role [] (part_of k ∷ []) [] t g (further front before done x f ∙ ap (λ y. before ++ y) c) refl (and_from (is_part (part_of k)) true (part-is k) refl) s.0

-- ---- through its formula

part-step : (modal : Bool) (x : Terminal) (front : List Terminal) (now : List Expected) (r : ℕ × List Expected) (k : Kind) → modal ≡ is_modal k → (before : List Terminal) (n : NameTree) (role : List ℕ) (inside : List Terminal) (above : List Expected) (nestings : List ℕ) → IsWhole (TextLanguage modal) before → IsTrue (name_fits n) → front ≡ before ++ (head_tokens (word_of k) n role ++ inside)
    → run modal (part_of k ∷ stop ∷ []) inside ≡ Some (nestings, above ++ stop ∷ []) → are_parts above ≡ true → now ≡ above ++ behind_body → step modal now x ≡ Some r → Stage modal (front ++ x ∷ []) r.1
part-step modal x front now r k e before n role inside above nestings t g f h p b z = by (same-step modal above x)
  where
    c : step modal (above ++ behind_body) x ≡ Some r
    c = at-now modal x z b

    on : (q : ℕ × List Expected) → step modal (above ++ stop ∷ []) x ≡ Some q → (q.1 ≡ []) ⊎ Above modal behind_body above x q → Stage modal (front ++ x ∷ []) r.1
    on q d (inl y) = s_tail (stop-step modal above x q r d y c)
    on q d (inr a) =
        s_part k e before n role (inside ++ x ∷ []) a.next (nestings ++ q.0 ∷ []) t g
        (further front before (head_tokens (word_of k) n role ++ inside) x f ∙ ap (λ y. before ++ y) (append_assoc (head_tokens (word_of k) n role) inside (x ∷ [])))
        (run-join modal inside (x ∷ []) (part_of k ∷ stop ∷ []) (above ++ stop ∷ []) (a.next ++ stop ∷ []) nestings (q.0 ∷ []) h (single-run modal (above ++ stop ∷ []) x q.0 (a.next ++ stop ∷ []) (d ∙ ap (λ y. Some (q.0, y)) a.is_next)))
        a.parts (ap (λ y. y.1) (some-is (sym c ∙ a.is_step)))

    by : SameStep modal above x → Stage modal (front ++ x ∷ []) r.1
    by (inl a) = absurd (none_some (sym a.1 ∙ c))
    by (inr a) = on (a.0, a.1) a.3 (above-step modal behind_body above x (a.0, a.1) p a.3)

-- ---- over all tokens

tail-stage : (modal : Bool) (front : List Terminal) (now : List Expected) → Tail now ⊎ (now ≡ items ∷ []) → Stage modal front now
tail-stage modal front now (inl t) = s_tail t
tail-stage modal front now (inr e) = s_items e

stage-step : (modal : Bool) (x : Terminal) (front : List Terminal) (now : List Expected) (r : ℕ × List Expected) → Stage modal front now → (now ≡ items ∷ [] → IsWhole (TextLanguage modal) front) → step modal now x ≡ Some r → Stage modal (front ++ x ∷ []) r.1
stage-step modal x front now r (s_items e) w z = first-stage modal x front r (w e) (at-now modal x z e)
stage-step modal x front now r (s_head k e before done t f h) w z = head-step modal x front now r k e before done t f h z
stage-step modal x front now r (s_part k e before n role inside above nestings t g f h p b) w z = part-step modal x front now r k e before n role inside above nestings t g f h p b z
stage-step modal x front now r (s_tail t) w z = tail-stage modal (front ++ x ∷ []) r.1 (tail-step modal t.0 x r t.1 (at-now modal x z t.2))

whole-here : (modal : Bool) (front : List Terminal) (j : List ℕ) (now : List Expected) → run modal (items ∷ []) front ≡ Some (j, now) → now ≡ items ∷ [] → IsWhole (TextLanguage modal) front
whole-here modal front j now h e = (j, ends-whole modal (TextLanguage modal) (items ∷ []) (text-written modal) front j (items ∷ []) (h ∙ ap (λ z. Some (j, z)) e) refl)

stage-run : (modal : Bool) (xs front : List Terminal) (now end : List Expected) (j k : List ℕ) → Stage modal front now → run modal (items ∷ []) front ≡ Some (j, now) → run modal now xs ≡ Some (k, end) → Stage modal (front ++ xs) end
stage-run modal [] front now end j k s h g = subst (λ z. Stage modal z end) (sym (append-nil front)) (subst (Stage modal front) (ap (λ p. p.1) (some-is g)) s)
stage-run modal (x ∷ xs) front now end j k s h g = by (step modal now x) refl (λ fs i l t z y. stage-run modal xs (front ++ x ∷ []) fs end i l t z y) g
  where
    by : (m : Move) → step modal now x ≡ m → ((fs : List Expected) (i l : List ℕ) → Stage modal (front ++ x ∷ []) fs → run modal (items ∷ []) (front ++ x ∷ []) ≡ Some (i, fs) → run modal fs xs ≡ Some (l, end) → Stage modal ((front ++ x ∷ []) ++ xs) end) → run_after m (λ fs. run modal fs xs) ≡ Some (k, end) → Stage modal (front ++ x ∷ xs) end
    by None d next z = absurd (none_some z)
    by (Some q) d next z =
        let b = run-behind q.0 (run modal q.1 xs) k end z in
        let t = stage-step modal x front now q s (whole-here modal front j now h) d in
        subst (λ y. Stage modal y end) (append_assoc front (x ∷ []) xs) (next q.1 (j ++ q.0 ∷ []) b.0 t (run-join modal front (x ∷ []) (items ∷ []) now q.1 j (q.0 ∷ []) h (single-run modal now x q.0 q.1 d)) b.1)

-- ---- the place of the next token

stands-in : (modal : Bool) (k : Kind) → modal ≡ is_modal k → (front before : List Terminal) (n : NameTree) (role : List ℕ) (inside : List Terminal) (above : List Expected) (nestings : List ℕ) → IsWhole (TextLanguage modal) before → IsTrue (name_fits n) → front ≡ before ++ (head_tokens (word_of k) n role ++ inside)
    → run modal (part_of k ∷ stop ∷ []) inside ≡ Some (nestings, above ++ stop ∷ []) → StandsIn modal (word_of k) (language_of k) front
stands-in modal k e front before n role inside above nestings t g f h = (
  t.1.0,
  n,
  role,
  inside,
  t.1.1,
  g,
  f ∙ ap (λ z. z ++ (head_tokens (word_of k) n role ++ inside)) t.1.2 ∙ sym (append_assoc (text_tokens t.1.0) (head_tokens (word_of k) n role) inside),
  stop-goes modal (language_of k) (part_of k ∷ stop ∷ []) (read-of modal k e) (written-of modal k e) inside nestings above h,
)

head-elsewhere : (k : Kind) (done : List Terminal) (now : List Expected) → Head k done now → is_in_body now ≡ true → ⊥
head-elsewhere k done now (h_word a b) h = false≢true (ap is_in_body (sym b) ∙ h)
head-elsewhere k done now (h_open a b) h = false≢true (ap is_in_body (sym b) ∙ h)
head-elsewhere k done now (h_name n g a b) h = false≢true (ap is_in_body (sym b) ∙ h)
head-elsewhere k done now (h_comma n g a b) h = false≢true (ap is_in_body (sym b) ∙ h)
head-elsewhere k done now (h_role n role g a b) h = false≢true (ap is_in_body (sym b) ∙ h)

in-body : (modal : Bool) (front : List Terminal) (now : List Expected) → Stage modal front now → is_in_body now ≡ true → InFormula modal front
in-body modal front now (s_items e) h = absurd (false≢true (ap is_in_body (sym e) ∙ h))
in-body modal front now (s_head k e before done t f a) h = absurd (head-elsewhere k done now a h)
in-body modal front now (s_part k e before n role inside above nestings t g f r p b) h = in-of modal k e front (stands-in modal k e front before n role inside above nestings t g f r)
in-body modal front now (s_tail t) h = absurd (false≢true (sym (tail-elsewhere t.0 t.1) ∙ ap is_in_body (sym t.2) ∙ h))

items-is : (e : Expected) → is_items e ≡ true → e ≡ items
items-is items h = refl
items-is _ h = absurd (false≢true h)

pub at-item-is : (now : List Expected) → is_at_item now ≡ true → now ≡ items ∷ []
at-item-is [] h = absurd (false≢true h)
at-item-is (e ∷ []) h = ap (λ z. z ∷ []) (items-is e h)
at-item-is (e ∷ f ∷ es) h = absurd (false≢true h)

pub not-at-item : (modal : Bool) (front : List Terminal) (k : List ℕ) (now : List Expected) → run modal (items ∷ []) front ≡ Some (k, now) → is_at_item now ≡ false → IsWhole (TextLanguage modal) front → ⊥
not-at-item modal front k now h n w = false≢true (sym n ∙ ap is_at_item (items-now modal front w.0 k now w.1 h))

-- the place that the stack tells is the place of the next token
pub place-is : (modal : Bool) (front : List Terminal) (k : List ℕ) (now : List Expected) → run modal (items ∷ []) front ≡ Some (k, now) → IsPlace modal front (place_now now)
place-is modal front k now h = by (is_at_item now) refl (is_in_body now) refl
  where
    by : (b : Bool) → is_at_item now ≡ b → (c : Bool) → is_in_body now ≡ c → IsPlace modal front (if b then at_item else (if c then in_formula else elsewhere))
    by true a c d = whole-here modal front k now h (at-item-is now a)
    by false a true d = (not-at-item modal front k now h a, in-body modal front now (stage-run modal front [] (items ∷ []) now [] k (s_items refl) refl h) d)
    by false a false d = (not-at-item modal front k now h a, λ f. false≢true (sym d ∙ in-formula-stack modal front k now f h))
