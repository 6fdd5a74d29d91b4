-- What a move leads to, taken back: clauses and items.
use Rattle.std.proofs.Common.{◌≡◌, ◌&&◌, ℕ, suc, Bool, true, false, List, [], ◌∷◌, ◌++◌, Option, None, Some, refl, sym, ◌∙◌, ap, append_assoc, IsTrue, if◌then◌else◌}
use Rattle.std.specs.Prelude.{codes}
use Rattle.std.specs.List.{list_all}
use Rattle.std.proofs.lemmas.Bool.{and_from}
use Rattle.plain_laws.proofs.Lists.{joins}
use Rattle.plain_laws.proofs.Options.{none_some}
use Rattle.tptp_reader.proofs.TreesDerive.{all_at-append}
use Rattle.tptp_lex.specs.Tokens.{is_digits}
use Rattle.tptp_reader.specs.Terminals.{Terminal, lower, upper, quoted, number, dollar, open_round, close_round, open_square, close_square, comma, dot, tilde, bar}
use Rattle.tptp_reader.specs.Grammar as g
use Rattle.tptp_reader.specs.Grammar.{Word, plain, in_quotes, TermTree, TermTrees, AtomTree, UnitTree, FormulaTree, UnitTrees, LiteralTree, ClauseTree, NameTree, ItemTree, term_tokens, terms_tokens, atom_tokens, unit_tokens, formula_tokens, units_tokens, variables_tokens, word_token}
use Rattle.tptp_reader.specs.Nesting.{all_at, atom_nestings, formula_nestings, literal_nestings, literals_nestings, clause_nestings, end_nestings, text_nestings}
use Rattle.tptp_reader.specs.Expecting.{Expected, an_opening, a_closing, a_dot, a_quoted, this, atom, formula, literal, unsigned, literals_rest, clause, clause_open, clause_rest, items, name, after_body, first_note, notes, include_rest, names_rest, before, head_of, this_move, atom_move, unsigned_move, literal_move, literals_rest_move, clause_move, clause_open_move, clause_rest_move, is_word, items_move, name_move, after_body_move, notes_move, first_note_move, include_rest_move, names_rest_move}
use Rattle.tptp_reader.proofs.Forms.{Backs, Completes, Form, Names, known, names_fit, names_tokens, no-more, no_names, only, others_tokens, some_names, split, unsigned_nestings, unsigned_tokens}
use Rattle.tptp_reader.proofs.FormulaForms.{atom-back, closing-is, comma-is, dot-is, halves, led, lower-is, opening-is, quoted-is, square-is, token-of, two, word-is}

-- ---- clauses

pub closed-back : (modal : Bool) (d : ℕ) {ts : List Terminal} {ns : List ℕ} → Completes modal (atom d ∷ this a_closing d ∷ []) ts ns → (a : AtomTree) × (ts ≡ atom_tokens a ++ close_round ∷ []) × (ns ≡ atom_nestings d a ++ d ∷ [])
closed-back modal d s =
    let t = two s in (t.first.0, joins t.tokens t.first.1 (token-of t.second.2 (closing-is t.second.0 t.second.1)), joins t.nestings t.first.2 t.second.3)

pub unsigned-atom : (modal : Bool) (d : ℕ) (x : Terminal) (r : ℕ × List Expected) (ts : List Terminal) (ns : List ℕ) → atom_move d x ≡ Some r → Completes modal r.1 ts ns → Form modal (unsigned d) (x ∷ ts) (r.0 ∷ ns)
unsigned-atom modal d x r ts ns e c = let f = atom-back modal d x r ts ns e c in (false, f.0, f.1, f.2)

pub unsigned-back : (modal : Bool) (d : ℕ) → Backs modal (unsigned d) (unsigned_move d)
unsigned-back modal d open_round r ts ns e c = known modal (unsigned d) open_round ts ns e (λ s. let f = closed-back modal (suc d) s in (true, f.0, ap (λ z. open_round ∷ z) f.1, ap (λ z. d ∷ z) f.2)) c
unsigned-back modal d (dollar w) r ts ns e c = unsigned-atom modal d (dollar w) r ts ns e c
unsigned-back modal d (upper w) r ts ns e c = unsigned-atom modal d (upper w) r ts ns e c
unsigned-back modal d (lower w) r ts ns e c = unsigned-atom modal d (lower w) r ts ns e c
unsigned-back modal d (quoted w) r ts ns e c = unsigned-atom modal d (quoted w) r ts ns e c
unsigned-back modal d _ r ts ns e c = absurd (none_some e)

abbrev pub positive_of : Bool → AtomTree → LiteralTree
positive_of true a = g.positive_bracketed a
positive_of false a = g.positive a

abbrev pub negative_of : Bool → AtomTree → LiteralTree
negative_of true a = g.negative_bracketed a
negative_of false a = g.negative a

pub positive-tokens : (b : Bool) (a : AtomTree) → g.literal_tokens (positive_of b a) ≡ unsigned_tokens b a
positive-tokens true a = refl
positive-tokens false a = refl

pub positive-nestings : (d : ℕ) (b : Bool) (a : AtomTree) → literal_nestings d (positive_of b a) ≡ unsigned_nestings d b a
positive-nestings d true a = refl
positive-nestings d false a = refl

pub negative-tokens : (b : Bool) (a : AtomTree) → g.literal_tokens (negative_of b a) ≡ tilde ∷ unsigned_tokens b a
negative-tokens true a = refl
negative-tokens false a = refl

pub negative-nestings : (d : ℕ) (b : Bool) (a : AtomTree) → literal_nestings d (negative_of b a) ≡ d ∷ unsigned_nestings (suc d) b a
negative-nestings d true a = refl
negative-nestings d false a = refl

pub literal-unsigned : (modal : Bool) (d : ℕ) (x : Terminal) (r : ℕ × List Expected) (ts : List Terminal) (ns : List ℕ) → unsigned_move d x ≡ Some r → Completes modal r.1 ts ns → Form modal (literal d) (x ∷ ts) (r.0 ∷ ns)
literal-unsigned modal d x r ts ns e c =
    let f = unsigned-back modal d x r ts ns e c in (positive_of f.0 f.1, f.2 ∙ sym (positive-tokens f.0 f.1), f.3 ∙ sym (positive-nestings d f.0 f.1))

pub literal-back : (modal : Bool) (d : ℕ) → Backs modal (literal d) (literal_move d)
literal-back modal d tilde r ts ns e c =
    known modal (literal d) tilde ts ns e (λ s. let f = only s in (negative_of f.0 f.1, ap (λ z. tilde ∷ z) f.2 ∙ sym (negative-tokens f.0 f.1), ap (λ z. d ∷ z) f.3 ∙ sym (negative-nestings d f.0 f.1))) c
literal-back modal d open_round r ts ns e c = literal-unsigned modal d open_round r ts ns e c
literal-back modal d (dollar w) r ts ns e c = literal-unsigned modal d (dollar w) r ts ns e c
literal-back modal d (upper w) r ts ns e c = literal-unsigned modal d (upper w) r ts ns e c
literal-back modal d (lower w) r ts ns e c = literal-unsigned modal d (lower w) r ts ns e c
literal-back modal d (quoted w) r ts ns e c = literal-unsigned modal d (quoted w) r ts ns e c
literal-back modal d _ r ts ns e c = absurd (none_some e)

pub literals_rest-back : (modal : Bool) (d : ℕ) → Backs modal (literals_rest d) (literals_rest_move d)
literals_rest-back modal d bar r ts ns e c =
    known modal (literals_rest d) bar ts ns e (λ s. let t = two s in (t.first.0 ∷ t.second.0, ap (λ z. bar ∷ z) (joins t.tokens t.first.1 t.second.1), ap (λ z. d ∷ z) (joins t.nestings t.first.2 t.second.2))) c
literals_rest-back modal d _ r ts ns e c = absurd (none_some e)

pub clause-atom : (modal : Bool) (x : Terminal) (r : ℕ × List Expected) (ts : List Terminal) (ns : List ℕ) → before (literals_rest 0 ∷ []) (atom_move 0 x) ≡ Some r → Completes modal r.1 ts ns → Form modal clause (x ∷ ts) (r.0 ∷ ns)
clause-atom modal x r ts ns e c =
    let l = led modal (atom 0) (literals_rest 0) (atom_move 0) (atom-back modal 0) x r ts ns e c in
    (g.bare (g.positive l.first.0) l.second.0, joins l.tokens l.first.1 l.second.1, joins l.nestings l.first.2 l.second.2)

pub clause-back : (modal : Bool) → Backs modal clause clause_move
clause-back modal open_round r ts ns e c = known modal clause open_round ts ns e (λ s. only s) c
clause-back modal tilde r ts ns e c =
    known modal clause tilde ts ns e (λ s. let t = two s in (
      g.bare (negative_of t.first.0 t.first.1) t.second.0,
      ap (λ z. tilde ∷ z) (joins t.tokens t.first.2 t.second.1) ∙ ap (λ z. z ++ g.literals_tokens t.second.0) (sym (negative-tokens t.first.0 t.first.1)),
      ap (λ z. 0 ∷ z) (joins t.nestings t.first.3 t.second.2) ∙ ap (λ z. z ++ literals_nestings 0 t.second.0) (sym (negative-nestings 0 t.first.0 t.first.1)),
    )) c
clause-back modal (dollar w) r ts ns e c = clause-atom modal (dollar w) r ts ns e c
clause-back modal (upper w) r ts ns e c = clause-atom modal (upper w) r ts ns e c
clause-back modal (lower w) r ts ns e c = clause-atom modal (lower w) r ts ns e c
clause-back modal (quoted w) r ts ns e c = clause-atom modal (quoted w) r ts ns e c
clause-back modal _ r ts ns e c = absurd (none_some e)

-- literals and the bracket behind them
pub literals-close : (modal : Bool) {ts : List Terminal} {ns : List ℕ} → Completes modal (literals_rest 1 ∷ this a_closing 1 ∷ []) ts ns → (ls : List LiteralTree) × (ts ≡ g.literals_tokens ls ++ close_round ∷ []) × (ns ≡ literals_nestings 1 ls ++ 1 ∷ [])
literals-close modal s = let t = two s in (t.first.0, joins t.tokens t.first.1 (token-of t.second.2 (closing-is t.second.0 t.second.1)), joins t.nestings t.first.2 t.second.3)

pub clause_open-atom : (modal : Bool) (x : Terminal) (r : ℕ × List Expected) (ts : List Terminal) (ns : List ℕ) → before (clause_rest ∷ []) (atom_move 1 x) ≡ Some r → Completes modal r.1 ts ns → Form modal clause_open (x ∷ ts) (r.0 ∷ ns)
clause_open-atom modal x r ts ns e c =
    let l = led modal (atom 1) clause_rest (atom_move 1) (atom-back modal 1) x r ts ns e c in
    let f = l.second l.first.0 in
    (f.0, ap (λ z. open_round ∷ z) (l.tokens ∙ ap (λ z. z ++ l.b) l.first.1) ∙ f.1, ap (λ z. 0 ∷ z) (l.nestings ∙ ap (λ z. z ++ l.l) l.first.2) ∙ f.2)

pub clause_open-back : (modal : Bool) → Backs modal clause_open clause_open_move
clause_open-back modal tilde r ts ns e c =
    known modal clause_open tilde ts ns e (λ s. let t = split s in let l = literals-close modal t.others in (
      g.bracketed_clause (negative_of t.first.0 t.first.1) l.0,
      ap (λ z. open_round ∷ tilde ∷ z) (joins t.tokens t.first.2 l.1 ∙ sym (append_assoc (unsigned_tokens t.first.0 t.first.1) (g.literals_tokens l.0) (close_round ∷ []))) ∙ ap (λ z. open_round ∷ (z ++ g.literals_tokens l.0 ++ close_round ∷ [])) (sym (negative-tokens t.first.0 t.first.1)),
      ap (λ z. 0 ∷ 1 ∷ z) (joins t.nestings t.first.3 l.2 ∙ sym (append_assoc (unsigned_nestings 2 t.first.0 t.first.1) (literals_nestings 1 l.0) (1 ∷ []))) ∙ ap (λ z. 0 ∷ (z ++ literals_nestings 1 l.0 ++ 1 ∷ [])) (sym (negative-nestings 1 t.first.0 t.first.1)),
    )) c
clause_open-back modal open_round r ts ns e c =
    known modal clause_open open_round ts ns e (λ s. let h = halves (atom 2 ∷ this a_closing 2 ∷ []) (literals_rest 1 ∷ this a_closing 1 ∷ []) s in let a = closed-back modal 2 h.first in let l = literals-close modal h.second in (
      g.bracketed_clause (g.positive_bracketed a.0) l.0,
      ap (λ z. open_round ∷ open_round ∷ z) (joins h.tokens a.1 l.1 ∙ sym (append_assoc (atom_tokens a.0 ++ close_round ∷ []) (g.literals_tokens l.0) (close_round ∷ []))),
      ap (λ z. 0 ∷ 1 ∷ z) (joins h.nestings a.2 l.2 ∙ sym (append_assoc (atom_nestings 2 a.0 ++ 2 ∷ []) (literals_nestings 1 l.0) (1 ∷ []))),
    )) c
clause_open-back modal (dollar w) r ts ns e c = clause_open-atom modal (dollar w) r ts ns e c
clause_open-back modal (upper w) r ts ns e c = clause_open-atom modal (upper w) r ts ns e c
clause_open-back modal (lower w) r ts ns e c = clause_open-atom modal (lower w) r ts ns e c
clause_open-back modal (quoted w) r ts ns e c = clause_open-atom modal (quoted w) r ts ns e c
clause_open-back modal _ r ts ns e c = absurd (none_some e)

pub between : {A : Type 0} (a : List A) (x : A) (b c d : List A) (z : List A) → z ≡ b ++ (c ++ d) → a ++ x ∷ z ≡ (a ++ x ∷ (b ++ c)) ++ d
between a x b c d z e = ap (λ q. a ++ x ∷ q) (e ∙ sym (append_assoc b c d)) ∙ sym (append_assoc a (x ∷ (b ++ c)) d)

pub clause_rest-back : (modal : Bool) → Backs modal clause_rest clause_rest_move
clause_rest-back modal bar r ts ns e c =
    known modal clause_rest bar ts ns e (λ s a. let t = split s in let l = literals-close modal t.others in (
      g.bracketed_clause (g.positive a) (t.first.0 ∷ l.0),
      ap (λ z. open_round ∷ z) (between (atom_tokens a) bar (g.literal_tokens t.first.0) (g.literals_tokens l.0) (close_round ∷ []) ts (joins t.tokens t.first.1 l.1)),
      ap (λ z. 0 ∷ z) (between (atom_nestings 1 a) 1 (literal_nestings 1 t.first.0) (literals_nestings 1 l.0) (1 ∷ []) ns (joins t.nestings t.first.2 l.2)),
    )) c
clause_rest-back modal close_round r ts ns e c =
    known modal clause_rest close_round ts ns e (λ s a. let f = only s in (
      g.bare (g.positive_bracketed a) f.0,
      ap (λ z. open_round ∷ (atom_tokens a ++ close_round ∷ z)) f.1 ∙ ap (λ z. open_round ∷ z) (sym (append_assoc (atom_tokens a) (close_round ∷ []) (g.literals_tokens f.0))),
      ap (λ z. 0 ∷ (atom_nestings 1 a ++ 1 ∷ z)) f.2 ∙ ap (λ z. 0 ∷ z) (sym (append_assoc (atom_nestings 1 a) (1 ∷ []) (literals_nestings 0 f.0))),
    )) c
clause_rest-back modal _ r ts ns e c = absurd (none_some e)

-- ---- items

pub name-back : (modal : Bool) → Backs modal name name_move
name-back modal (lower w) r ts ns e c = known modal name (lower w) ts ns e (λ s. let n = no-more s in (g.word_name (plain w), refl, ap (λ z. lower w ∷ z) n.0, ap (λ z. 0 ∷ z) n.1)) c
name-back modal (quoted w) r ts ns e c = known modal name (quoted w) ts ns e (λ s. let n = no-more s in (g.word_name (in_quotes w), refl, ap (λ z. quoted w ∷ z) n.0, ap (λ z. 0 ∷ z) n.1)) c
name-back modal (number w) r ts ns e c = by (is_digits w) refl e
  where
    by : (b : Bool) → is_digits w ≡ b → this_move b 0 ≡ Some r → Form modal name (number w ∷ ts) (r.0 ∷ ns)
    by false h q = absurd (none_some q)
    by true h q = known modal name (number w) ts ns q (λ s. let n = no-more s in (g.number_name w, h, ap (λ z. number w ∷ z) n.0, ap (λ z. 0 ∷ z) n.1)) c
name-back modal _ r ts ns e c = absurd (none_some e)

pub after_body-back : (modal : Bool) → Backs modal after_body after_body_move
after_body-back modal comma r ts ns e c = known modal after_body comma ts ns e (λ s. let f = only s in (Some f.0, f.1, ap (λ z. comma ∷ z) f.2, ap (λ z. 0 ∷ z) f.3)) c
after_body-back modal close_round r ts ns e c = known modal after_body close_round ts ns e (λ s. let n = no-more s in (None, refl, ap (λ z. close_round ∷ z) n.0, ap (λ z. 0 ∷ z) n.1)) c
after_body-back modal _ r ts ns e c = absurd (none_some e)

-- a token before notes
pub noted : (modal : Bool) (waiting next : List Bool) (x : Terminal) (ts : List Terminal) (ns : List ℕ) → ((xs : List Terminal) → g.closes waiting (x ∷ xs) ≡ g.closes next xs) → Completes modal (notes next ∷ []) ts ns → Form modal (notes waiting) (x ∷ ts) (0 ∷ ns)
noted modal waiting next x ts ns h s = let f = only s in (x ∷ f.0, h f.0 ∙ f.1, ap (λ z. x ∷ z) f.2, ap (λ z. 0 ∷ z) f.3)

pub notes-back : (modal : Bool) (waiting : List Bool) → Backs modal (notes waiting) (notes_move waiting)
notes-back modal [] open_round r ts ns e c = known modal (notes []) open_round ts ns e (noted modal [] (true ∷ []) open_round ts ns (λ xs. refl)) c
notes-back modal [] open_square r ts ns e c = known modal (notes []) open_square ts ns e (noted modal [] (false ∷ []) open_square ts ns (λ xs. refl)) c
notes-back modal [] close_round r ts ns e c = known modal (notes []) close_round ts ns e (λ s. let n = no-more s in ([], refl, ap (λ z. close_round ∷ z) n.0, ap (λ z. 0 ∷ z) n.1)) c
notes-back modal [] close_square r ts ns e c = absurd (none_some e)
notes-back modal (b ∷ w) open_round r ts ns e c = known modal (notes (b ∷ w)) open_round ts ns e (noted modal (b ∷ w) (true ∷ b ∷ w) open_round ts ns (λ xs. refl)) c
notes-back modal (b ∷ w) open_square r ts ns e c = known modal (notes (b ∷ w)) open_square ts ns e (noted modal (b ∷ w) (false ∷ b ∷ w) open_square ts ns (λ xs. refl)) c
notes-back modal (true ∷ w) close_round r ts ns e c = known modal (notes (true ∷ w)) close_round ts ns e (noted modal (true ∷ w) w close_round ts ns (λ xs. refl)) c
notes-back modal (false ∷ w) close_round r ts ns e c = absurd (none_some e)
notes-back modal (true ∷ w) close_square r ts ns e c = absurd (none_some e)
notes-back modal (false ∷ w) close_square r ts ns e c = known modal (notes (false ∷ w)) close_square ts ns e (noted modal (false ∷ w) w close_square ts ns (λ xs. refl)) c
notes-back modal [] x r ts ns e c = known modal (notes []) x ts ns e (noted modal [] [] x ts ns (λ xs. refl)) c
notes-back modal (b ∷ w) x r ts ns e c = known modal (notes (b ∷ w)) x ts ns e (noted modal (b ∷ w) (b ∷ w) x ts ns (λ xs. refl)) c

abbrev pub head_of_list : List Terminal → Terminal
head_of_list [] = comma
head_of_list (x ∷ xs) = x

pub first-noted : (modal : Bool) (x : Terminal) (ts : List Terminal) (ns : List ℕ) (n : ℕ) → (x ≡ close_round → ⊥) → Form modal (notes []) (x ∷ ts) (n ∷ ns) → Form modal first_note (x ∷ ts) (n ∷ ns)
first-noted modal x ts ns n h f = by f.0 f.1 f.2 f.3
  where
    by : (xs : List Terminal) → IsTrue (g.closes [] xs) → x ∷ ts ≡ xs ++ close_round ∷ [] → n ∷ ns ≡ all_at 0 (xs ++ close_round ∷ []) → Form modal first_note (x ∷ ts) (n ∷ ns)
    by [] p e k = absurd (h (ap head_of_list e))
    by (y ∷ ys) p e k = (y ∷ ys, p, e, k)

pub first_note-back : (modal : Bool) → Backs modal first_note first_note_move
first_note-back modal close_round r ts ns e c = absurd (none_some e)
first_note-back modal x r ts ns e c = first-noted modal x ts ns r.0 (λ h. cc) (notes-back modal [] x r ts ns e c)

pub include_rest-back : (modal : Bool) → Backs modal include_rest include_rest_move
include_rest-back modal comma r ts ns e c =
    known modal include_rest comma ts ns e (λ s. let t = split s in let u = two t.others in (
      some_names u.first.0 u.second.0,
      and_from (g.name_fits u.first.0) (list_all g.name_fits u.second.0) u.first.1 u.second.1,
      ap (λ z. comma ∷ z) (joins t.tokens (token-of t.first.2 (square-is t.first.0 t.first.1)) (joins u.tokens u.first.2 u.second.2)),
      ap (λ z. 0 ∷ z) (joins t.nestings t.first.3 (joins u.nestings u.first.3 u.second.3)),
    )) c
include_rest-back modal close_round r ts ns e c = known modal include_rest close_round ts ns e (λ s. let n = no-more s in (no_names, refl, ap (λ z. close_round ∷ z) n.0, ap (λ z. 0 ∷ z) n.1)) c
include_rest-back modal _ r ts ns e c = absurd (none_some e)

pub names_rest-back : (modal : Bool) → Backs modal names_rest names_rest_move
names_rest-back modal comma r ts ns e c =
    known modal names_rest comma ts ns e (λ s. let u = two s in
    (u.first.0 ∷ u.second.0, and_from (g.name_fits u.first.0) (list_all g.name_fits u.second.0) u.first.1 u.second.1, ap (λ z. comma ∷ z) (joins u.tokens u.first.2 u.second.2), ap (λ z. 0 ∷ z) (joins u.nestings u.first.3 u.second.3))) c
names_rest-back modal close_square r ts ns e c = known modal names_rest close_square ts ns e (λ s. let f = only s in ([], refl, ap (λ z. close_square ∷ z) (token-of f.2 (closing-is f.0 f.1)), ap (λ z. 0 ∷ z) f.3)) c
names_rest-back modal _ r ts ns e c = absurd (none_some e)

-- a formula, notes, and the end of an item before other items
pub ending : (f n t : List Terminal) → f ++ ((n ++ close_round ∷ []) ++ dot ∷ t) ≡ ((f ++ n) ++ close_round ∷ dot ∷ []) ++ t
ending f n t =
    ap (λ z. f ++ z) (append_assoc n (close_round ∷ []) (dot ∷ t)) ∙ sym (append_assoc f n (close_round ∷ dot ∷ t)) ∙ sym (append_assoc (f ++ n) (close_round ∷ dot ∷ []) t)

pub ending-nestings : (k : List ℕ) (n : List Terminal) (l : List ℕ) → k ++ (all_at 0 (n ++ close_round ∷ []) ++ 0 ∷ l) ≡ (k ++ all_at 0 (n ++ close_round ∷ dot ∷ [])) ++ l
ending-nestings k n l =
    ap (λ z. k ++ (z ++ 0 ∷ l)) (all_at-append 0 n (close_round ∷ [])) ∙ ap (λ z. k ++ z) (append_assoc (all_at 0 n) (0 ∷ []) (0 ∷ l) ∙ sym (append_assoc (all_at 0 n) (0 ∷ 0 ∷ []) l) ∙ ap (λ z. z ++ l) (sym (all_at-append 0 n (close_round ∷ dot ∷ []))))
    ∙ sym (append_assoc k (all_at 0 (n ++ close_round ∷ dot ∷ [])) l)

-- what stands behind an item's language
pub record Headed (modal : Bool) (body : Expected) (ts : List Terminal) (ns : List ℕ) : Type 0 where
  pub named : NameTree
  pub role : List ℕ
  pub a : List Terminal
  pub k : List ℕ
  pub form_of_body : Form modal body a k
  pub noted : Option (List Terminal)
  pub more : List ItemTree
  pub fits : IsTrue (g.name_fits named)
  pub notes_fit : IsTrue (g.notes_fit noted)
  pub others_fit : IsTrue (list_all (g.item_fits modal) more)
  pub tokens : ts ≡ open_round ∷ g.name_token named ∷ comma ∷ lower role ∷ comma ∷ (((a ++ g.notes_tokens noted) ++ g.end_tokens) ++ g.text_tokens more)
  pub nestings : ns ≡ 0 ∷ 0 ∷ 0 ∷ 0 ∷ 0 ∷ ((k ++ end_nestings noted) ++ text_nestings more)

pub headed : (modal : Bool) (body : Expected) (ts : List Terminal) (ns : List ℕ) → Completes modal (head_of body) ts ns → Headed modal body ts ns
headed modal body ts ns c =
    let s1 = split c in let s2 = split s1.others in let s3 = split s2.others in let s4 = split s3.others in let s5 = split s4.others in let s6 = split s5.others in let s7 = split s6.others in let s8 = two s7.others in
    let w = lower-is s4.first.0 s4.first.1 in
    record {
      named = s2.first.0;
      role = w.0;
      a = s6.a;
      k = s6.k;
      form_of_body = s6.first;
      noted = s7.first.0;
      more = s8.second.0;
      fits = s2.first.1;
      notes_fit = s7.first.1;
      others_fit = s8.second.1;
      tokens =
          joins s1.tokens (token-of s1.first.2 (opening-is s1.first.0 s1.first.1)) (joins s2.tokens s2.first.2 (joins s3.tokens (token-of s3.first.2 (comma-is s3.first.0 s3.first.1)) (joins s4.tokens (token-of s4.first.2 w.1)
          (joins s5.tokens (token-of s5.first.2 (comma-is s5.first.0 s5.first.1)) (joins s6.tokens refl (joins s7.tokens s7.first.2 (joins s8.tokens (token-of s8.first.2 (dot-is s8.first.0 s8.first.1)) s8.second.2))
          ∙ ending s6.a (g.notes_tokens s7.first.0) (g.text_tokens s8.second.0))))));
      nestings =
          joins s1.nestings s1.first.3 (joins s2.nestings s2.first.3 (joins s3.nestings s3.first.3 (joins s4.nestings s4.first.3
          (joins s5.nestings s5.first.3 (joins s6.nestings refl (joins s7.nestings s7.first.3 (joins s8.nestings s8.first.3 s8.second.3))
          ∙ ending-nestings s6.k (g.notes_tokens s7.first.0) (text_nestings s8.second.0))))));
    }

pub ending-names : (o t : List Terminal) → (o ++ close_square ∷ close_round ∷ []) ++ dot ∷ t ≡ (o ++ close_square ∷ close_round ∷ dot ∷ []) ++ t
ending-names o t = append_assoc o (close_square ∷ close_round ∷ []) (dot ∷ t) ∙ sym (append_assoc o (close_square ∷ close_round ∷ dot ∷ []) t)

pub ending-names-nestings : (o : List Terminal) (l : List ℕ) → all_at 0 (o ++ close_square ∷ close_round ∷ []) ++ 0 ∷ l ≡ all_at 0 (o ++ close_square ∷ close_round ∷ dot ∷ []) ++ l
ending-names-nestings o l =
    ap (λ z. z ++ 0 ∷ l) (all_at-append 0 o (close_square ∷ close_round ∷ [])) ∙ append_assoc (all_at 0 o) (0 ∷ 0 ∷ []) (0 ∷ l)
    ∙ sym (append_assoc (all_at 0 o) (0 ∷ 0 ∷ 0 ∷ []) l) ∙ ap (λ z. z ++ l) (sym (all_at-append 0 o (close_square ∷ close_round ∷ dot ∷ [])))

pub include-back : (modal : Bool) (w : List ℕ) → w ≡ codes "include" → (ts : List Terminal) (ns : List ℕ) → Completes modal (this an_opening 0 ∷ this a_quoted 0 ∷ include_rest ∷ this a_dot 0 ∷ items ∷ []) ts ns → Form modal items (lower w ∷ ts) (0 ∷ ns)
include-back modal w h ts ns c =
    let s1 = split c in let s2 = split s1.others in let s3 = split s2.others in let s4 = two s3.others in
    let q = quoted-is s2.first.0 s2.first.1 in
    let e : ts ≡ open_round ∷ quoted q.0 ∷ (names_tokens s3.first.0 ++ dot ∷ g.text_tokens s4.second.0) =
    joins s1.tokens (token-of s1.first.2 (opening-is s1.first.0 s1.first.1)) (joins s2.tokens (token-of s2.first.2 q.1) (joins s3.tokens s3.first.2 (joins s4.tokens (token-of s4.first.2 (dot-is s4.first.0 s4.first.1)) s4.second.2))) in
    let k : ns ≡ 0 ∷ 0 ∷ (all_at 0 (names_tokens s3.first.0) ++ 0 ∷ text_nestings s4.second.0) =
    joins s1.nestings s1.first.3 (joins s2.nestings s2.first.3 (joins s3.nestings s3.first.3 (joins s4.nestings s4.first.3 s4.second.3))) in
    by s3.first.0 s3.first.1 q.0 s4.second.0 s4.second.1 e k
  where
    by : (m : Names) → IsTrue (names_fit m) → (file : List ℕ) (is : List ItemTree) → IsTrue (list_all (g.item_fits modal) is) → ts ≡ open_round ∷ quoted file ∷ (names_tokens m ++ dot ∷ g.text_tokens is) → ns ≡ 0 ∷ 0 ∷ (all_at 0 (names_tokens m) ++ 0 ∷ text_nestings is) → Form modal items (lower w ∷ ts) (0 ∷ ns)
    by no_names f file is p e k = (g.include file ∷ is, and_from true (list_all (g.item_fits modal) is) refl p, (λ i. lower (h i) ∷ e i), ap (λ z. 0 ∷ z) k)
    by (some_names n xs) f file is p e k = (
      g.include_names file n xs ∷ is,
      and_from (g.name_fits n && list_all g.name_fits xs) (list_all (g.item_fits modal) is) f p,
      (λ i. lower (h i) ∷ e i) ∙ ap (λ z. lower (codes "include") ∷ open_round ∷ quoted file ∷ comma ∷ open_square ∷ g.name_token n ∷ z) (ending-names (others_tokens xs) (g.text_tokens is)),
      ap (λ z. 0 ∷ z) k ∙ ap (λ z. 0 ∷ 0 ∷ 0 ∷ 0 ∷ 0 ∷ 0 ∷ z) (ending-names-nestings (others_tokens xs) (text_nestings is)),
    )

-- the tokens of an item with a body, and of the items behind it
abbrev pub with_body : List ℕ → NameTree → List ℕ → List Terminal → Option (List Terminal) → List ItemTree → List Terminal
with_body language n role f o is = lower language ∷ open_round ∷ g.name_token n ∷ comma ∷ lower role ∷ comma ∷ (((f ++ g.notes_tokens o) ++ g.end_tokens) ++ g.text_tokens is)

pub items-word : (language w : List ℕ) → is_word w language ≡ true → {modal : Bool} {body : Expected} (ts : List Terminal) (ns : List ℕ) (h : Headed modal body ts ns) (f : List Terminal) → h.a ≡ f → lower w ∷ ts ≡ with_body language h.named h.role f h.noted h.more
items-word language w e ts ns h f q = (λ i. lower (word-is w language e i) ∷ h.tokens i) ∙ ap (λ z. with_body language h.named h.role z h.noted h.more) q

pub items-nestings : {modal : Bool} {body : Expected} (ts : List Terminal) (ns : List ℕ) (h : Headed modal body ts ns) (k : List ℕ) → h.k ≡ k → 0 ∷ ns ≡ 0 ∷ 0 ∷ 0 ∷ 0 ∷ 0 ∷ 0 ∷ ((k ++ end_nestings h.noted) ++ text_nestings h.more)
items-nestings ts ns h k q = ap (λ z. 0 ∷ z) h.nestings ∙ ap (λ z. 0 ∷ 0 ∷ 0 ∷ 0 ∷ 0 ∷ 0 ∷ ((z ++ end_nestings h.noted) ++ text_nestings h.more)) q

pub fof-back : (w : List ℕ) → is_word w (codes "fof") ≡ true → (ts : List Terminal) (ns : List ℕ) → Completes false (head_of (formula 0)) ts ns → Form false items (lower w ∷ ts) (0 ∷ ns)
fof-back w e ts ns c =
    let h = headed false (formula 0) ts ns c in
    let f = h.form_of_body in (
      g.fof h.named h.role f.0 h.noted ∷ h.more,
      and_from (g.item_fits false (g.fof h.named h.role f.0 h.noted)) (list_all (g.item_fits false) h.more) (and_from (g.name_fits h.named && g.is_plain f.0) (g.notes_fit h.noted) (and_from (g.name_fits h.named) (g.is_plain f.0) h.fits f.1) h.notes_fit) h.others_fit,
      items-word (codes "fof") w e ts ns h (formula_tokens f.0) f.2,
      items-nestings ts ns h (formula_nestings 0 f.0) f.3,
    )

pub qmf-back : (w : List ℕ) → is_word w (codes "qmf") ≡ true → (ts : List Terminal) (ns : List ℕ) → Completes true (head_of (formula 0)) ts ns → Form true items (lower w ∷ ts) (0 ∷ ns)
qmf-back w e ts ns c =
    let h = headed true (formula 0) ts ns c in
    let f = h.form_of_body in (
      g.qmf h.named h.role f.0 h.noted ∷ h.more,
      and_from (g.item_fits true (g.qmf h.named h.role f.0 h.noted)) (list_all (g.item_fits true) h.more) (and_from (g.name_fits h.named) (g.notes_fit h.noted) h.fits h.notes_fit) h.others_fit,
      items-word (codes "qmf") w e ts ns h (formula_tokens f.0) f.2,
      items-nestings ts ns h (formula_nestings 0 f.0) f.3,
    )

pub cnf-back : (w : List ℕ) → is_word w (codes "cnf") ≡ true → (ts : List Terminal) (ns : List ℕ) → Completes false (head_of clause) ts ns → Form false items (lower w ∷ ts) (0 ∷ ns)
cnf-back w e ts ns c =
    let h = headed false clause ts ns c in
    let f = h.form_of_body in (
      g.cnf h.named h.role f.0 h.noted ∷ h.more,
      and_from (g.item_fits false (g.cnf h.named h.role f.0 h.noted)) (list_all (g.item_fits false) h.more) (and_from (g.name_fits h.named) (g.notes_fit h.noted) h.fits h.notes_fit) h.others_fit,
      items-word (codes "cnf") w e ts ns h (g.clause_tokens f.0) f.1,
      items-nestings ts ns h (clause_nestings 0 f.0) f.2,
    )

pub fof-known : (modal : Bool) (w : List ℕ) → is_word w (codes "fof") ≡ true → (r : ℕ × List Expected) (ts : List Terminal) (ns : List ℕ) → (if modal then None else Some (0, head_of (formula 0))) ≡ Some r → Completes modal r.1 ts ns → Form modal items (lower w ∷ ts) (r.0 ∷ ns)
fof-known true w h r ts ns e c = absurd (none_some e)
fof-known false w h r ts ns e c = known false items (lower w) ts ns e (fof-back w h ts ns) c

pub cnf-known : (modal : Bool) (w : List ℕ) → is_word w (codes "cnf") ≡ true → (r : ℕ × List Expected) (ts : List Terminal) (ns : List ℕ) → (if modal then None else Some (0, head_of clause)) ≡ Some r → Completes modal r.1 ts ns → Form modal items (lower w ∷ ts) (r.0 ∷ ns)
cnf-known true w h r ts ns e c = absurd (none_some e)
cnf-known false w h r ts ns e c = known false items (lower w) ts ns e (cnf-back w h ts ns) c

pub qmf-known : (modal : Bool) (w : List ℕ) → is_word w (codes "qmf") ≡ true → (r : ℕ × List Expected) (ts : List Terminal) (ns : List ℕ) → (if modal then Some (0, head_of (formula 0)) else None) ≡ Some r → Completes modal r.1 ts ns → Form modal items (lower w ∷ ts) (r.0 ∷ ns)
qmf-known false w h r ts ns e c = absurd (none_some e)
qmf-known true w h r ts ns e c = known true items (lower w) ts ns e (qmf-back w h ts ns) c

pub items-back : (modal : Bool) → Backs modal items (items_move modal)
items-back modal (lower w) r ts ns e c = by (is_word w (codes "include")) (is_word w (codes "fof")) (is_word w (codes "cnf")) (is_word w (codes "qmf")) refl refl refl refl e
  where
    by : (i f n m : Bool) → is_word w (codes "include") ≡ i → is_word w (codes "fof") ≡ f → is_word w (codes "cnf") ≡ n → is_word w (codes "qmf") ≡ m
        → (if i then Some (0, this an_opening 0 ∷ this a_quoted 0 ∷ include_rest ∷ this a_dot 0 ∷ items ∷ [])
        else (if f then (if modal then None else Some (0, head_of (formula 0)))
        else (if n then (if modal then None else Some (0, head_of clause))
        else (if m then (if modal then Some (0, head_of (formula 0)) else None)
        else None)))) ≡ Some r → Form modal items (lower w ∷ ts) (r.0 ∷ ns)
    by true f n m h1 h2 h3 h4 q = known modal items (lower w) ts ns q (include-back modal w (word-is w (codes "include") h1) ts ns) c
    by false true n m h1 h2 h3 h4 q = fof-known modal w h2 r ts ns q c
    by false false true m h1 h2 h3 h4 q = cnf-known modal w h3 r ts ns q c
    by false false false true h1 h2 h3 h4 q = qmf-known modal w h4 r ts ns q c
    by false false false false h1 h2 h3 h4 q = absurd (none_some q)
items-back modal _ r ts ns e c = absurd (none_some e)
