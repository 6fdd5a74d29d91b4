-- What the stack of what is expected leads to, taken back; and each stack is completed by some tokens.
use Rattle.std.proofs.Common.{◌≡◌, ℕ, Bool, true, false, List, [], ◌∷◌, ◌++◌, Option, None, Some, refl, sym, ap, append-nil, subst}
use Rattle.std.specs.Prelude.{codes}
use Rattle.std.proofs.lemmas.Bool.{and_parts, false≢true}
use Rattle.plain_laws.proofs.Options.{none_some}
use Rattle.tptp_lex.proofs.Runs.{some-is}
use Rattle.tptp_reader.specs.Terminals.{Terminal, lower, upper, quoted, dollar, open_round, close_round, open_square, close_square, comma, dot, colon}
use Rattle.tptp_reader.specs.Grammar as g
use Rattle.tptp_reader.specs.Grammar.{Word, plain, in_quotes, TermTree, TermTrees, AtomTree, UnitTree, FormulaTree, UnitTrees, LiteralTree, ClauseTree, NameTree, ItemTree, term_tokens, terms_tokens, atom_tokens, unit_tokens, formula_tokens, units_tokens, variables_tokens, word_token}
use Rattle.tptp_reader.specs.Nesting.{atom_nestings}
use Rattle.tptp_reader.specs.Expecting.{Expected, Fixed, an_opening, a_closing, a_square, a_comma, a_dot, a_colon, a_lower, an_upper, a_quoted, form, form_of, this, term, arguments, some_arguments, some_equation, equation, atom, variables, unit, formula, formula_rest, chain_rest, stop, literal, unsigned, literals_rest, clause, clause_open, clause_rest, items, name, after_body, first_note, notes, include_rest, names_rest, move, is_optional, before, moved, step, run, run_on, run_after, all_optional}
use Rattle.tptp_reader.proofs.Forms.{Backs, Completes, Form, equals, no_arguments, no_names, no_rest, no_side, none, part, this-back}
use Rattle.tptp_reader.proofs.FormulaForms.{arguments-back, atom-back, chain_rest-back, equation-back, formula-back, formula_rest-back, halves, or-true, some_arguments-back, some_equation-back, stop-back, term-back, unit-back, variables-back}
use Rattle.tptp_reader.proofs.ItemForms.{after_body-back, clause-back, clause_open-back, clause_rest-back, first_note-back, include_rest-back, items-back, literal-back, literals_rest-back, name-back, names_rest-back, notes-back, unsigned-back}

-- ---- the stack

pub move-back : (modal : Bool) (e : Expected) → Backs modal e (move modal e)
move-back modal (this k d) x r ts ns h c = this-back modal k d x r ts ns h c
move-back modal (term d) x r ts ns h c = term-back modal d x r ts ns h c
move-back modal (arguments d) x r ts ns h c = arguments-back modal d x r ts ns h c
move-back modal (some_arguments d) x r ts ns h c = some_arguments-back modal d x r ts ns h c
move-back modal (some_equation d) x r ts ns h c = some_equation-back modal d x r ts ns h c
move-back modal (equation d) x r ts ns h c = equation-back modal d x r ts ns h c
move-back modal (atom d) x r ts ns h c = atom-back modal d x r ts ns h c
move-back modal (variables d) x r ts ns h c = variables-back modal d x r ts ns h c
move-back modal (unit d) x r ts ns h c = unit-back modal d x r ts ns h c
move-back modal (formula d) x r ts ns h c = formula-back modal d x r ts ns h c
move-back modal (formula_rest d) x r ts ns h c = formula_rest-back modal d x r ts ns h c
move-back modal (chain_rest k d) x r ts ns h c = chain_rest-back modal k d x r ts ns h c
move-back modal stop x r ts ns h c = stop-back modal x r ts ns h c
move-back modal (literal d) x r ts ns h c = literal-back modal d x r ts ns h c
move-back modal (unsigned d) x r ts ns h c = unsigned-back modal d x r ts ns h c
move-back modal (literals_rest d) x r ts ns h c = literals_rest-back modal d x r ts ns h c
move-back modal clause x r ts ns h c = clause-back modal x r ts ns h c
move-back modal clause_open x r ts ns h c = clause_open-back modal x r ts ns h c
move-back modal clause_rest x r ts ns h c = clause_rest-back modal x r ts ns h c
move-back modal items x r ts ns h c = items-back modal x r ts ns h c
move-back modal name x r ts ns h c = name-back modal x r ts ns h c
move-back modal after_body x r ts ns h c = after_body-back modal x r ts ns h c
move-back modal first_note x r ts ns h c = first_note-back modal x r ts ns h c
move-back modal (notes w) x r ts ns h c = notes-back modal w x r ts ns h c
move-back modal include_rest x r ts ns h c = include_rest-back modal x r ts ns h c
move-back modal names_rest x r ts ns h c = names_rest-back modal x r ts ns h c

pub optional-form : (modal : Bool) (e : Expected) → is_optional e ≡ true → Form modal e [] []
optional-form modal (some_arguments d) h = (no_arguments, refl, refl)
optional-form modal (some_equation d) h = (no_side, refl, refl)
optional-form modal (formula_rest d) h = (no_rest, or-true modal, refl, refl)
optional-form modal (chain_rest c d) h = (g.no_units, or-true modal, refl, refl)
optional-form modal (literals_rest d) h = ([], refl, refl)
optional-form modal items h = ([], refl, refl, refl)
optional-form modal _ h = absurd (false≢true h)

pub step-back : (modal : Bool) (es : List Expected) (x : Terminal) (r : ℕ × List Expected) (ts : List Terminal) (ns : List ℕ) → step modal es x ≡ Some r → Completes modal r.1 ts ns → Completes modal es (x ∷ ts) (r.0 ∷ ns)
step-back modal [] x r ts ns h c = absurd (none_some h)
step-back modal (e ∷ es) x r ts ns h c = by (move modal e x) refl (is_optional e) refl (λ k. step-back modal es x r ts ns k c) h
  where
    by : (m : Option (ℕ × List Expected)) → move modal e x ≡ m → (o : Bool) → is_optional e ≡ o → (step modal es x ≡ Some r → Completes modal es (x ∷ ts) (r.0 ∷ ns)) → moved m o es (step modal es x) ≡ Some r → Completes modal (e ∷ es) (x ∷ ts) (r.0 ∷ ns)
    by (Some q) d o p next k =
        let k1 : (q.0, q.1 ++ es) ≡ r = some-is k in
        let s = halves q.1 es (subst (λ (z : ℕ × List Expected). Completes modal z.1 ts ns) (sym k1) c) in
        let f : Form modal e (x ∷ s.a) (q.0 ∷ s.k) = move-back modal e x q s.a s.k d s.first in
        subst (λ (z : ℕ × List Expected). Completes modal (e ∷ es) (x ∷ ts) (z.0 ∷ ns)) k1
        (subst (λ z. Completes modal (e ∷ es) (x ∷ z) (q.0 ∷ ns)) (sym s.tokens) (subst (λ z. Completes modal (e ∷ es) (x ∷ (s.a ++ s.b)) (q.0 ∷ z)) (sym s.nestings) (part (x ∷ s.a) s.b (q.0 ∷ s.k) s.l f s.second)))
    by None d true p next k = part [] (x ∷ ts) [] (r.0 ∷ ns) (optional-form modal e p) (next k)
    by None d false p next k = absurd (none_some k)

pub run-back : (modal : Bool) (front : List Terminal) (es now : List Expected) (before : List ℕ) (ts : List Terminal) (ns : List ℕ) → run modal es front ≡ Some (before, now) → Completes modal now ts ns → Completes modal es (front ++ ts) (before ++ ns)
run-back modal [] es now before ts ns h c = subst (λ (z : List ℕ × List Expected). Completes modal z.1 ts ns → Completes modal es ts (z.0 ++ ns)) (some-is h) (λ k. k) c
run-back modal (x ∷ front) es now before ts ns h c = by (step modal es x) refl (λ fs k e. run-back modal front fs now k ts ns e c) h
  where
    behind : (n : ℕ) (r : Option (List ℕ × List Expected)) → run_on n r ≡ Some (before, now) → (k : List ℕ) × (r ≡ Some (k, now)) × (before ≡ n ∷ k)
    behind n None e = absurd (none_some e)
    behind n (Some q) e = (q.0, ap (λ z. Some (q.0, z)) (ap (λ p. p.1) (some-is e)), sym (ap (λ p. p.0) (some-is e)))

    by : (m : Option (ℕ × List Expected)) → step modal es x ≡ m → ((fs : List Expected) (k : List ℕ) → run modal fs front ≡ Some (k, now) → Completes modal fs (front ++ ts) (k ++ ns)) → run_after m (λ fs. run modal fs front) ≡ Some (before, now) → Completes modal es (x ∷ (front ++ ts)) (before ++ ns)
    by None d next e = absurd (none_some e)
    by (Some q) d next e =
        let k = behind q.0 (run modal q.1 front) e in
        subst (λ z. Completes modal es (x ∷ (front ++ ts)) (z ++ ns)) (sym k.2) (step-back modal es x q (front ++ ts) (k.0 ++ ns) d (next q.1 k.0 k.1))

pub optional-completes : (modal : Bool) (es : List Expected) → all_optional es ≡ true → Completes modal es [] []
optional-completes modal [] h = none
optional-completes modal (e ∷ es) h = let p = and_parts (is_optional e) (all_optional es) h in part [] [] [] [] (optional-form modal e p.0) (optional-completes modal es p.1)

-- ---- each part has some tokens

pub record Filled (modal : Bool) (e : Expected) : Type 0 where
  pub tokens : List Terminal
  pub nestings : List ℕ
  pub filled : Form modal e tokens nestings

abbrev pub sample : Fixed → Terminal
sample an_opening = open_round
sample a_closing = close_round
sample a_square = open_square
sample a_comma = comma
sample a_dot = dot
sample a_colon = colon
sample a_lower = lower (codes "a")
sample an_upper = upper (codes "X")
sample a_quoted = quoted (codes "a")

pub sample-form : (k : Fixed) → form (sample k) ≡ form_of k
sample-form an_opening = refl
sample-form a_closing = refl
sample-form a_square = refl
sample-form a_comma = refl
sample-form a_dot = refl
sample-form a_colon = refl
sample-form a_lower = refl
sample-form an_upper = refl
sample-form a_quoted = refl

-- the brackets that close those that wait
abbrev pub closers : List Bool → List Terminal
closers [] = []
closers (true ∷ w) = close_round ∷ closers w
closers (false ∷ w) = close_square ∷ closers w

pub closers-close : (w : List Bool) → g.closes w (closers w) ≡ true
closers-close [] = refl
closers-close (true ∷ w) = closers-close w
closers-close (false ∷ w) = closers-close w

pub filled : (modal : Bool) (e : Expected) → Filled modal e
filled modal (this k d) = record { tokens = sample k ∷ []; nestings = d ∷ []; filled = (sample k, sample-form k, refl, refl) }
filled modal (term d) = record { tokens = _; nestings = _; filled = (g.variable (codes "X"), refl, refl) }
filled modal (arguments d) = record { tokens = _; nestings = _; filled = (g.no_terms, refl, refl) }
filled modal (some_arguments d) = record { tokens = _; nestings = _; filled = (no_arguments, refl, refl) }
filled modal (some_equation d) = record { tokens = _; nestings = _; filled = (no_side, refl, refl) }
filled modal (equation d) = record { tokens = _; nestings = _; filled = (equals (g.variable (codes "X")), refl, refl, refl) }
filled modal (atom d) = record { tokens = _; nestings = _; filled = (g.truth, refl, refl) }
filled modal (variables d) = record { tokens = _; nestings = _; filled = ([], refl, refl) }
filled modal (unit d) = record { tokens = _; nestings = _; filled = (g.atomic g.truth, or-true modal, refl, refl) }
filled modal (formula d) = record { tokens = _; nestings = _; filled = (g.single (g.atomic g.truth), or-true modal, refl, refl) }
filled modal (formula_rest d) = record { tokens = _; nestings = _; filled = (no_rest, or-true modal, refl, refl) }
filled modal (chain_rest c d) = record { tokens = _; nestings = _; filled = (g.no_units, or-true modal, refl, refl) }
filled modal stop = record { tokens = _; nestings = _; filled = (comma, refl, refl, refl) }
filled modal (literal d) = record { tokens = _; nestings = _; filled = (g.positive g.truth, refl, refl) }
filled modal (unsigned d) = record { tokens = _; nestings = _; filled = (false, g.truth, refl, refl) }
filled modal (literals_rest d) = record { tokens = _; nestings = _; filled = ([], refl, refl) }
filled modal clause = record { tokens = _; nestings = _; filled = (g.bare (g.positive g.truth) [], refl, refl) }
filled modal clause_open = record { tokens = dollar (codes "$true") ∷ close_round ∷ []; nestings = 1 ∷ 1 ∷ []; filled = (g.bracketed_clause (g.positive g.truth) [], refl, refl) }
filled modal clause_rest = record { tokens = close_round ∷ []; nestings = 1 ∷ []; filled = λ a. (g.bare (g.positive_bracketed a) [], ap (λ z. open_round ∷ z) (sym (append-nil (atom_tokens a ++ close_round ∷ []))), ap (λ z. 0 ∷ z) (sym (append-nil (atom_nestings 1 a ++ 1 ∷ [])))) }
filled modal items = record { tokens = _; nestings = _; filled = (g.include (codes "a") ∷ [], refl, refl, refl) }
filled modal name = record { tokens = _; nestings = _; filled = (g.word_name (plain (codes "a")), refl, refl, refl) }
filled modal after_body = record { tokens = _; nestings = _; filled = (None, refl, refl, refl) }
filled modal first_note = record { tokens = _; nestings = _; filled = (dot ∷ [], refl, refl, refl) }
filled modal (notes w) = record { tokens = _; nestings = _; filled = (closers w, closers-close w, refl, refl) }
filled modal include_rest = record { tokens = _; nestings = _; filled = (no_names, refl, refl, refl) }
filled modal names_rest = record { tokens = _; nestings = _; filled = ([], refl, refl, refl) }

pub record Completed (modal : Bool) (es : List Expected) : Type 0 where
  pub tokens : List Terminal
  pub nestings : List ℕ
  pub completes : Completes modal es tokens nestings

pub completed : (modal : Bool) (es : List Expected) → Completed modal es
completed modal [] = record { tokens = []; nestings = []; completes = none }
completed modal (e ∷ es) = let f = filled modal e in let c = completed modal es in record { tokens = f.tokens ++ c.tokens; nestings = f.nestings ++ c.nestings; completes = part f.tokens c.tokens f.nestings c.nestings f.filled c.completes }
