-- What is expected behind tokens that stand in a formula: parts of formulas or clauses, and then what follows a formula. So
-- behind other tokens the stack shows that they do not.
use Rattle.std.proofs.Common.{◌≡◌, ◌==◌, ◌⊎◌, ◌&&◌, ◌||◌, ℕ, Bool, true, false, List, [], ◌∷◌, ◌++◌, Option, None, Some, inl, inr, refl, sym, ◌∙◌, ap, append_assoc, append-nil, subst, IsTrue}
use Rattle.std.specs.Prelude.{codes, if◌then◌else◌}
use Rattle.std.proofs.lemmas.Bool.{and_parts, and_from, false≢true}
use Rattle.std.proofs.lemmas.List.Folds.{list_all-append}
use Rattle.plain_laws.proofs.Options.{none_some}
use Rattle.tptp_reader.proofs.OneReading.{stop-leads}
use Rattle.tptp_lex.proofs.Runs.{some-is}
use Rattle.tptp_reader.specs.declared.source.ChainKind.{ChainKind}
use Rattle.tptp_reader.specs.declared.source.ChainKind.TheVariants.{And, Or}
use Rattle.tptp_reader.specs.Terminals.{Terminal, lower, upper, quoted, number, dollar, hash, open_round, close_round, close_square, comma, tilde, exclamation, question, ampersand, bar, implies, implied, equivalent, inequivalent, nor, nand, equal, unequal}
use Rattle.tptp_reader.specs.Grammar.{plain, in_quotes, NameTree, word_name, number_name, name_fits, name_token, head_tokens, text_tokens}
use Rattle.tptp_reader.specs.Faults.{Language, TextLanguage, FormulaLanguage, ClauseLanguage, StandsIn, InFormula}
use Rattle.tptp_reader.specs.Expecting.{is_part, are_parts, is_in_body, is_after_body, Expected, an_opening, a_comma, a_dot, a_lower, a_quoted, form, form_of, this, term, arguments, some_arguments, some_equation, equation, atom, variables, unit, formula, formula_rest, chain_rest, stop, literal, unsigned, literals_rest, clause, clause_open, clause_rest, items, name, after_body, include_rest, move, moved, is_optional, all_optional, step, run, run_on, run_after, before, head_of, is_word, this_move, term_move, arguments_move, some_arguments_move, equation_move, dollar_move, is_truth, atom_move, variables_move, modal_move, is_modality, unit_move, formula_rest_move, chain_rest_move, stop_move, unsigned_move, literal_move, literals_rest_move, clause_move, clause_open_move, clause_rest_move, items_move}
use Rattle.tptp_reader.proofs.Deriving.{before-some}
use Rattle.tptp_reader.proofs.FollowLaws.{IsReadBy, text-read, formula-read, clause-read, follows-run}
use Rattle.tptp_reader.proofs.ExactLaws.{whole-ends}

-- ---- parts of formulas and clauses

abbrev Keeps : (Terminal → Option (ℕ × List Expected)) → Type 0
Keeps mv = (x : Terminal) (r : ℕ × List Expected) → mv x ≡ Some r → are_parts r.1 ≡ true

kept : {n : ℕ} {new : List Expected} {r : ℕ × List Expected} → Some (n, new) ≡ Some r → are_parts new ≡ true → are_parts r.1 ≡ true
kept e h = subst (λ (z : ℕ × List Expected). are_parts z.1 ≡ true) (some-is e) h

flag-keeps : (b : Bool) (d : ℕ) (r : ℕ × List Expected) → this_move b d ≡ Some r → are_parts r.1 ≡ true
flag-keeps true d r e = kept e refl
flag-keeps false d r e = absurd (none_some e)

dollar-keeps : (b : Bool) (d : ℕ) (r : ℕ × List Expected) → dollar_move b d ≡ Some r → are_parts r.1 ≡ true
dollar-keeps true d r e = kept e refl
dollar-keeps false d r e = absurd (none_some e)

modal-keeps : (b : Bool) (d : ℕ) (r : ℕ × List Expected) → modal_move b d ≡ Some r → are_parts r.1 ≡ true
modal-keeps true d r e = kept e refl
modal-keeps false d r e = absurd (none_some e)

before-keeps : (f : Expected) (m : Option (ℕ × List Expected)) (r : ℕ × List Expected) → is_part f ≡ true → ((q : ℕ × List Expected) → m ≡ Some q → are_parts q.1 ≡ true) → before (f ∷ []) m ≡ Some r → are_parts r.1 ≡ true
before-keeps f m r h k e =
    let b = before-some (f ∷ []) m r e in
    ap (λ (z : ℕ × List Expected). are_parts z.1) b.joined ∙ list_all-append is_part b.first.1 (f ∷ []) ∙ and_from (are_parts b.first.1) (is_part f && true) (k b.first b.there) (and_from (is_part f) true h refl)

term-keeps : (d : ℕ) → Keeps (term_move d)
term-keeps d (upper x) r e = kept e refl
term-keeps d (lower w) r e = kept e refl
term-keeps d (quoted w) r e = kept e refl
term-keeps d _ r e = absurd (none_some e)

arguments-keeps : (d : ℕ) → Keeps (arguments_move d)
arguments-keeps d comma r e = kept e refl
arguments-keeps d close_round r e = kept e refl
arguments-keeps d _ r e = absurd (none_some e)

some_arguments-keeps : (d : ℕ) → Keeps (some_arguments_move d)
some_arguments-keeps d open_round r e = kept e refl
some_arguments-keeps d _ r e = absurd (none_some e)

equation-keeps : (d : ℕ) → Keeps (equation_move d)
equation-keeps d equal r e = kept e refl
equation-keeps d unequal r e = kept e refl
equation-keeps d _ r e = absurd (none_some e)

atom-keeps : (d : ℕ) → Keeps (atom_move d)
atom-keeps d (dollar w) r e = dollar-keeps (is_truth w) d r e
atom-keeps d (upper w) r e = kept e refl
atom-keeps d (lower w) r e = kept e refl
atom-keeps d (quoted w) r e = kept e refl
atom-keeps d _ r e = absurd (none_some e)

variables-keeps : (d : ℕ) → Keeps (variables_move d)
variables-keeps d comma r e = kept e refl
variables-keeps d close_square r e = kept e refl
variables-keeps d _ r e = absurd (none_some e)

unit-keeps : (modal : Bool) (d : ℕ) → Keeps (unit_move modal d)
unit-keeps modal d open_round r e = kept e refl
unit-keeps modal d tilde r e = kept e refl
unit-keeps modal d exclamation r e = kept e refl
unit-keeps modal d question r e = kept e refl
unit-keeps modal d (hash w) r e = modal-keeps (modal && is_modality w) d r e
unit-keeps modal d (dollar w) r e = atom-keeps d (dollar w) r e
unit-keeps modal d (upper w) r e = atom-keeps d (upper w) r e
unit-keeps modal d (lower w) r e = atom-keeps d (lower w) r e
unit-keeps modal d (quoted w) r e = atom-keeps d (quoted w) r e
unit-keeps modal d _ r e = absurd (none_some e)

formula_rest-keeps : (d : ℕ) → Keeps (formula_rest_move d)
formula_rest-keeps d ampersand r e = kept e refl
formula_rest-keeps d bar r e = kept e refl
formula_rest-keeps d implies r e = kept e refl
formula_rest-keeps d implied r e = kept e refl
formula_rest-keeps d equivalent r e = kept e refl
formula_rest-keeps d inequivalent r e = kept e refl
formula_rest-keeps d nor r e = kept e refl
formula_rest-keeps d nand r e = kept e refl
formula_rest-keeps d _ r e = absurd (none_some e)

chain_rest-keeps : (c : ChainKind) (d : ℕ) → Keeps (chain_rest_move c d)
chain_rest-keeps And d ampersand r e = kept e refl
chain_rest-keeps Or d bar r e = kept e refl
chain_rest-keeps And d _ r e = absurd (none_some e)
chain_rest-keeps Or d _ r e = absurd (none_some e)

unsigned-keeps : (d : ℕ) → Keeps (unsigned_move d)
unsigned-keeps d open_round r e = kept e refl
unsigned-keeps d (dollar w) r e = atom-keeps d (dollar w) r e
unsigned-keeps d (upper w) r e = atom-keeps d (upper w) r e
unsigned-keeps d (lower w) r e = atom-keeps d (lower w) r e
unsigned-keeps d (quoted w) r e = atom-keeps d (quoted w) r e
unsigned-keeps d _ r e = absurd (none_some e)

literal-keeps : (d : ℕ) → Keeps (literal_move d)
literal-keeps d tilde r e = kept e refl
literal-keeps d open_round r e = kept e refl
literal-keeps d (dollar w) r e = unsigned-keeps d (dollar w) r e
literal-keeps d (upper w) r e = unsigned-keeps d (upper w) r e
literal-keeps d (lower w) r e = unsigned-keeps d (lower w) r e
literal-keeps d (quoted w) r e = unsigned-keeps d (quoted w) r e
literal-keeps d _ r e = absurd (none_some e)

literals_rest-keeps : (d : ℕ) → Keeps (literals_rest_move d)
literals_rest-keeps d bar r e = kept e refl
literals_rest-keeps d _ r e = absurd (none_some e)

clause-keeps : Keeps clause_move
clause-keeps open_round r e = kept e refl
clause-keeps tilde r e = kept e refl
clause-keeps (dollar w) r e = before-keeps (literals_rest 0) (atom_move 0 (dollar w)) r refl (atom-keeps 0 (dollar w)) e
clause-keeps (upper w) r e = before-keeps (literals_rest 0) (atom_move 0 (upper w)) r refl (atom-keeps 0 (upper w)) e
clause-keeps (lower w) r e = before-keeps (literals_rest 0) (atom_move 0 (lower w)) r refl (atom-keeps 0 (lower w)) e
clause-keeps (quoted w) r e = before-keeps (literals_rest 0) (atom_move 0 (quoted w)) r refl (atom-keeps 0 (quoted w)) e
clause-keeps _ r e = absurd (none_some e)

clause_open-keeps : Keeps clause_open_move
clause_open-keeps tilde r e = kept e refl
clause_open-keeps open_round r e = kept e refl
clause_open-keeps (dollar w) r e = before-keeps clause_rest (atom_move 1 (dollar w)) r refl (atom-keeps 1 (dollar w)) e
clause_open-keeps (upper w) r e = before-keeps clause_rest (atom_move 1 (upper w)) r refl (atom-keeps 1 (upper w)) e
clause_open-keeps (lower w) r e = before-keeps clause_rest (atom_move 1 (lower w)) r refl (atom-keeps 1 (lower w)) e
clause_open-keeps (quoted w) r e = before-keeps clause_rest (atom_move 1 (quoted w)) r refl (atom-keeps 1 (quoted w)) e
clause_open-keeps _ r e = absurd (none_some e)

clause_rest-keeps : Keeps clause_rest_move
clause_rest-keeps bar r e = kept e refl
clause_rest-keeps close_round r e = kept e refl
clause_rest-keeps _ r e = absurd (none_some e)

move-keeps : (modal : Bool) (e : Expected) → is_part e ≡ true → Keeps (move modal e)
move-keeps modal (this k d) h x r q = flag-keeps (form x == form_of k) d r q
move-keeps modal (term d) h x r q = term-keeps d x r q
move-keeps modal (arguments d) h x r q = arguments-keeps d x r q
move-keeps modal (some_arguments d) h x r q = some_arguments-keeps d x r q
move-keeps modal (some_equation d) h x r q = equation-keeps d x r q
move-keeps modal (equation d) h x r q = equation-keeps d x r q
move-keeps modal (atom d) h x r q = atom-keeps d x r q
move-keeps modal (variables d) h x r q = variables-keeps d x r q
move-keeps modal (unit d) h x r q = unit-keeps modal d x r q
move-keeps modal (formula d) h x r q = before-keeps (formula_rest d) (unit_move modal d x) r refl (unit-keeps modal d x) q
move-keeps modal (formula_rest d) h x r q = formula_rest-keeps d x r q
move-keeps modal (chain_rest c d) h x r q = chain_rest-keeps c d x r q
move-keeps modal (literal d) h x r q = literal-keeps d x r q
move-keeps modal (unsigned d) h x r q = unsigned-keeps d x r q
move-keeps modal (literals_rest d) h x r q = literals_rest-keeps d x r q
move-keeps modal clause h x r q = clause-keeps x r q
move-keeps modal clause_open h x r q = clause_open-keeps x r q
move-keeps modal clause_rest h x r q = clause_rest-keeps x r q
move-keeps modal _ h x r q = absurd (false≢true h)

-- ---- the same parts above another bottom

-- a step above the last part, the same above any other bottom
pub record Above (modal : Bool) (bottom above : List Expected) (x : Terminal) (r : ℕ × List Expected) : Type 0 where
  pub next : List Expected
  pub parts : are_parts next ≡ true
  pub is_next : r.1 ≡ next ++ stop ∷ []
  pub is_step : step modal (above ++ bottom) x ≡ Some (r.0, next ++ bottom)

pub above-step : (modal : Bool) (bottom above : List Expected) (x : Terminal) (r : ℕ × List Expected) → are_parts above ≡ true → step modal (above ++ stop ∷ []) x ≡ Some r → (r.1 ≡ []) ⊎ Above modal bottom above x r
above-step modal bottom [] x r p e = by (stop_move x) refl e
  where
    by : (m : Option (ℕ × List Expected)) → stop_move x ≡ m → moved m false [] None ≡ Some r → (r.1 ≡ []) ⊎ Above modal bottom [] x r
    by None d k = absurd (none_some k)
    by (Some q) d k = inl (ap (λ p. p.1) (sym (some-is k)) ∙ append-nil q.1 ∙ stop-leads x q d)
above-step modal bottom (e ∷ above) x r p h =
    let ps = and_parts (is_part e) (are_parts above) p in
    by ps.0 ps.1 (move modal e x) refl (is_optional e) refl (λ k. above-step modal bottom above x r ps.1 k) h
  where
    over : (o : Bool) → is_optional e ≡ o → o ≡ true → move modal e x ≡ None → (r.1 ≡ []) ⊎ Above modal bottom above x r → (r.1 ≡ []) ⊎ Above modal bottom (e ∷ above) x r
    over o d t n (inl z) = inl z
    over o d t n (inr a) = inr (record {
      next = a.next;
      parts = a.parts;
      is_next = a.is_next;
      is_step = ap (λ m. moved m (is_optional e) (above ++ bottom) (step modal (above ++ bottom) x)) n ∙ ap (λ b. moved None b (above ++ bottom) (step modal (above ++ bottom) x)) (d ∙ t) ∙ a.is_step;
    })

    by : is_part e ≡ true → are_parts above ≡ true → (m : Option (ℕ × List Expected)) → move modal e x ≡ m → (o : Bool) → is_optional e ≡ o → (step modal (above ++ stop ∷ []) x ≡ Some r → (r.1 ≡ []) ⊎ Above modal bottom above x r)
        → moved m o (above ++ stop ∷ []) (step modal (above ++ stop ∷ []) x) ≡ Some r → (r.1 ≡ []) ⊎ Above modal bottom (e ∷ above) x r
    by p1 p2 (Some q) d o t next k =
        let n : ℕ × List Expected = (q.0, q.1 ++ (above ++ stop ∷ [])) in
        let z : (q.0, q.1 ++ (above ++ stop ∷ [])) ≡ r = some-is k in
        inr (record {
          next = q.1 ++ above;
          parts = list_all-append is_part q.1 above ∙ and_from (are_parts q.1) (are_parts above) (move-keeps modal e p1 x q d) p2;
          is_next = ap (λ p. p.1) (sym z) ∙ sym (append_assoc q.1 above (stop ∷ []));
          is_step = ap (λ m. moved m (is_optional e) (above ++ bottom) (step modal (above ++ bottom) x)) d ∙ ap (λ l. Some (q.0, l)) (sym (append_assoc q.1 above bottom)) ∙ ap (λ k. Some (k, (q.1 ++ above) ++ bottom)) (ap (λ p. p.0) z);
        })
    by p1 p2 None d true t next k = over true t refl d (next k)
    by p1 p2 None d false t next k = absurd (none_some k)

-- a run that has not taken the last part
pub record AboveRun (modal : Bool) (bottom above : List Expected) (xs : List Terminal) (now : List Expected) : Type 0 where
  pub nestings : List ℕ
  pub next : List Expected
  pub parts : are_parts next ≡ true
  pub is_now : now ≡ next ++ stop ∷ []
  pub is_run : run modal (above ++ bottom) xs ≡ Some (nestings, next ++ bottom)

pub above-run : (modal : Bool) (bottom : List Expected) (xs : List Terminal) (above : List Expected) (k : List ℕ) (e : Expected) (es : List Expected) → are_parts above ≡ true → run modal (above ++ stop ∷ []) xs ≡ Some (k, e ∷ es) → AboveRun modal bottom above xs (e ∷ es)
above-run modal bottom [] above k e es p h = record { nestings = []; next = above; parts = p; is_now = sym (ap (λ z. z.1) (some-is h)); is_run = refl }
above-run modal bottom (x ∷ xs) above k e es p h = by (step modal (above ++ stop ∷ []) x) refl (λ next l q z. above-run modal bottom xs next l e es q z) h
  where
    behind : (n : ℕ) (r : Option (List ℕ × List Expected)) → run_on n r ≡ Some (k, e ∷ es) → (l : List ℕ) × (r ≡ Some (l, e ∷ es))
    behind n None z = absurd (none_some z)
    behind n (Some q) z = (q.0, ap (λ y. Some (q.0, y)) (ap (λ p. p.1) (some-is z)))

    ended : (ys : List Terminal) (l : List ℕ) → run modal [] ys ≡ Some (l, e ∷ es) → ⊥
    ended [] l z = let w : [] ≡ e ∷ es = ap (λ p. p.1) (some-is z) in cc
    ended (y ∷ ys) l z = none_some z

    on : (q : ℕ × List Expected) (l : List ℕ) → run modal q.1 xs ≡ Some (l, e ∷ es) → ((next : List Expected) (l : List ℕ) → are_parts next ≡ true → run modal (next ++ stop ∷ []) xs ≡ Some (l, e ∷ es) → AboveRun modal bottom next xs (e ∷ es)) → (q.1 ≡ []) ⊎ Above modal bottom above x q → AboveRun modal bottom above (x ∷ xs) (e ∷ es)
    on q l z next (inl n) = absurd (ended xs l (ap (λ s. run modal s xs) (sym n) ∙ z))
    on q l z next (inr a) =
        let r = next a.next l a.parts (ap (λ s. run modal s xs) (sym a.is_next) ∙ z) in
        record { nestings = q.0 ∷ r.nestings; next = r.next; parts = r.parts; is_now = r.is_now; is_run = ap (λ m. run_after m (λ fs. run modal fs xs)) a.is_step ∙ ap (run_on q.0) r.is_run }

    by : (m : Option (ℕ × List Expected)) → step modal (above ++ stop ∷ []) x ≡ m → ((next : List Expected) (l : List ℕ) → are_parts next ≡ true → run modal (next ++ stop ∷ []) xs ≡ Some (l, e ∷ es) → AboveRun modal bottom next xs (e ∷ es)) → run_after m (λ fs. run modal fs xs) ≡ Some (k, e ∷ es) → AboveRun modal bottom above (x ∷ xs) (e ∷ es)
    by None d next z = absurd (none_some z)
    by (Some q) d next z = let b = behind q.0 (run modal q.1 xs) z in on q b.0 b.1 next (above-step modal bottom above x q p d)

-- ---- the stack of a text of items

-- an item is not ended, or another one may begin
abbrev EndsItems : List Expected → Type 0
EndsItems es = (es ≡ items ∷ []) ⊎ ((above : List Expected) × (es ≡ above ++ this a_dot 0 ∷ items ∷ []))

head-ends : (body : Expected) → EndsItems (head_of body ++ [])
head-ends body = inr (this an_opening 0 ∷ name ∷ this a_comma 0 ∷ this a_lower 0 ∷ this a_comma 0 ∷ body ∷ after_body ∷ [], refl)

word-ends : (modal i f c m : Bool) (r : ℕ × List Expected)
    → (if i then Some (0, this an_opening 0 ∷ this a_quoted 0 ∷ include_rest ∷ this a_dot 0 ∷ items ∷ [])
    else (if f then (if modal then None else Some (0, head_of (formula 0)))
    else (if c then (if modal then None else Some (0, head_of clause))
    else (if m then (if modal then Some (0, head_of (formula 0)) else None)
    else None)))) ≡ Some r → EndsItems (r.1 ++ [])
word-ends modal true f c m r e = subst (λ (z : ℕ × List Expected). EndsItems (z.1 ++ [])) (some-is e) (inr (this an_opening 0 ∷ this a_quoted 0 ∷ include_rest ∷ [], refl))
word-ends true false true c m r e = absurd (none_some e)
word-ends false false true c m r e = subst (λ (z : ℕ × List Expected). EndsItems (z.1 ++ [])) (some-is e) (head-ends (formula 0))
word-ends true false false true m r e = absurd (none_some e)
word-ends false false false true m r e = subst (λ (z : ℕ × List Expected). EndsItems (z.1 ++ [])) (some-is e) (head-ends clause)
word-ends true false false false true r e = subst (λ (z : ℕ × List Expected). EndsItems (z.1 ++ [])) (some-is e) (head-ends (formula 0))
word-ends false false false false true r e = absurd (none_some e)
word-ends modal false false false false r e = absurd (none_some e)

items-end : (modal : Bool) (x : Terminal) (r : ℕ × List Expected) → items_move modal x ≡ Some r → EndsItems (r.1 ++ [])
items-end modal (lower w) r e = word-ends modal (is_word w (codes "include")) (is_word w (codes "fof")) (is_word w (codes "cnf")) (is_word w (codes "qmf")) r e
items-end modal _ r e = absurd (none_some e)

first-step : (modal : Bool) (x : Terminal) (r : ℕ × List Expected) → step modal (items ∷ []) x ≡ Some r → EndsItems r.1
first-step modal x r h = by (items_move modal x) refl h
  where
    by : (m : Option (ℕ × List Expected)) → items_move modal x ≡ m → moved m true [] None ≡ Some r → EndsItems r.1
    by None d k = absurd (none_some k)
    by (Some q) d k = subst (λ (z : ℕ × List Expected). EndsItems z.1) (some-is k) (items-end modal x q d)

later-step : (modal : Bool) (above : List Expected) (x : Terminal) (r : ℕ × List Expected) → step modal (above ++ this a_dot 0 ∷ items ∷ []) x ≡ Some r → EndsItems r.1
later-step modal [] x r h = by (form x == 15) h
  where
    by : (b : Bool) → moved (this_move b 0) false (items ∷ []) (step modal (items ∷ []) x) ≡ Some r → EndsItems r.1
    by true k = inl (ap (λ p. p.1) (sym (some-is k)))
    by false k = absurd (none_some k)
later-step modal (e ∷ above) x r h = by (move modal e x) (is_optional e) (λ k. later-step modal above x r k) h
  where
    by : (m : Option (ℕ × List Expected)) (o : Bool) → (step modal (above ++ this a_dot 0 ∷ items ∷ []) x ≡ Some r → EndsItems r.1) → moved m o (above ++ this a_dot 0 ∷ items ∷ []) (step modal (above ++ this a_dot 0 ∷ items ∷ []) x) ≡ Some r → EndsItems r.1
    by (Some q) o next k = inr (q.1 ++ above, ap (λ p. p.1) (sym (some-is k)) ∙ sym (append_assoc q.1 above (this a_dot 0 ∷ items ∷ [])))
    by None true next k = next k
    by None false next k = absurd (none_some k)

ends-step : (modal : Bool) (es : List Expected) (x : Terminal) (r : ℕ × List Expected) → EndsItems es → step modal es x ≡ Some r → EndsItems r.1
ends-step modal es x r (inl e) h = first-step modal x r (sym (ap (λ s. step modal s x) e) ∙ h)
ends-step modal es x r (inr a) h = later-step modal a.0 x r (sym (ap (λ s. step modal s x) a.1) ∙ h)

-- what is left of a run behind its first token
run-step : (modal : Bool) (es : List Expected) (x : Terminal) (xs : List Terminal) (k : List ℕ) (now : List Expected) (r : ℕ × List Expected) → run modal es (x ∷ xs) ≡ Some (k, now) → step modal es x ≡ Some r → (l : List ℕ) × (run modal r.1 xs ≡ Some (l, now))
run-step modal es x xs k now r h e = behind r.0 (run modal r.1 xs) (sym (ap (λ m. run_after m (λ fs. run modal fs xs)) e) ∙ h)
  where
    behind : (n : ℕ) (q : Option (List ℕ × List Expected)) → run_on n q ≡ Some (k, now) → (l : List ℕ) × (q ≡ Some (l, now))
    behind n None z = absurd (none_some z)
    behind n (Some q) z = (q.0, ap (λ y. Some (q.0, y)) (ap (λ p. p.1) (some-is z)))

ends-run : (modal : Bool) (xs : List Terminal) (es now : List Expected) (k : List ℕ) → EndsItems es → run modal es xs ≡ Some (k, now) → EndsItems now
ends-run modal [] es now k b e = subst EndsItems (ap (λ p. p.1) (some-is e)) b
ends-run modal (x ∷ xs) es now k b e = by (step modal es x) refl (λ fs l c z. ends-run modal xs fs now l c z)
  where
    by : (m : Option (ℕ × List Expected)) → step modal es x ≡ m → ((fs : List Expected) (l : List ℕ) → EndsItems fs → run modal fs xs ≡ Some (l, now) → EndsItems now) → EndsItems now
    by None d next = absurd (none_some (sym (ap (λ m. run_after m (λ fs. run modal fs xs)) d) ∙ e))
    by (Some q) d next = let s = run-step modal es x xs k now q e d in next q.1 s.0 (ends-step modal es x q b d) s.1

not-optional : (above : List Expected) → all_optional (above ++ this a_dot 0 ∷ items ∷ []) ≡ true → ⊥
not-optional [] h = false≢true h
not-optional (e ∷ above) h = not-optional above (and_parts (is_optional e) (all_optional (above ++ this a_dot 0 ∷ items ∷ [])) h).1

-- behind whole items another one may begin, and nothing else is expected
pub items-now : (modal : Bool) (ts : List Terminal) (ns : List ℕ) (k : List ℕ) (now : List Expected) → TextLanguage modal ts ns → run modal (items ∷ []) ts ≡ Some (k, now) → now ≡ items ∷ []
items-now modal ts ns k now l h = by (ends-run modal ts (items ∷ []) now k (inl refl) h)
  where
    o : all_optional now ≡ true
    o = whole-ends modal (TextLanguage modal) (items ∷ []) (text-read modal) ts k now h (ns, l)

    by : EndsItems now → now ≡ items ∷ []
    by (inl e) = e
    by (inr a) = absurd (not-optional a.0 (sym (ap all_optional a.1) ∙ o))

-- a run is cut where its tokens are
cut-run : (modal : Bool) (xs ys : List Terminal) (es now : List Expected) (k : List ℕ) → run modal es (xs ++ ys) ≡ Some (k, now) → (mid : List Expected) × (a : List ℕ) × (b : List ℕ) × (run modal es xs ≡ Some (a, mid)) × (run modal mid ys ≡ Some (b, now))
cut-run modal [] ys es now k h = (es, [], k, refl, h)
cut-run modal (x ∷ xs) ys es now k h = by (step modal es x) refl (λ fs l z. cut-run modal xs ys fs now l z)
  where
    by : (m : Option (ℕ × List Expected)) → step modal es x ≡ m → ((fs : List Expected) (l : List ℕ) → run modal fs (xs ++ ys) ≡ Some (l, now) → (mid : List Expected) × (a : List ℕ) × (b : List ℕ) × (run modal fs xs ≡ Some (a, mid)) × (run modal mid ys ≡ Some (b, now)))
        → (mid : List Expected) × (a : List ℕ) × (b : List ℕ) × (run modal es (x ∷ xs) ≡ Some (a, mid)) × (run modal mid ys ≡ Some (b, now))
    by None d next = absurd (none_some (sym (ap (λ m. run_after m (λ fs. run modal fs (xs ++ ys))) d) ∙ h))
    by (Some q) d next =
        let s = run-step modal es x (xs ++ ys) k now q h d in
        let c = next q.1 s.0 s.1 in
        (c.0, q.0 ∷ c.1, c.2, ap (λ m. run_after m (λ fs. run modal fs xs)) d ∙ ap (run_on q.0) c.3, c.4)

-- ---- tokens that stand in a formula

pub name-step : (modal : Bool) (n : NameTree) (es : List Expected) → IsTrue (name_fits n) → step modal (name ∷ es) (name_token n) ≡ Some (0, es)
name-step modal (word_name (plain w)) es h = refl
name-step modal (word_name (in_quotes w)) es h = refl
name-step modal (number_name ds) es h = ap (λ b. moved (this_move b 0) false es (step modal es (number ds))) h

abbrev pub behind_body : List Expected
behind_body = after_body ∷ this a_dot 0 ∷ items ∷ []

-- behind the head of an item its body is expected
head-run : (modal : Bool) (language : List ℕ) (body : Expected) → step modal (items ∷ []) (lower language) ≡ Some (0, head_of body) → (n : NameTree) (role : List ℕ) (inside : List Terminal) → IsTrue (name_fits n) → (k : List ℕ) (now : List Expected)
    → run modal (items ∷ []) (head_tokens language n role ++ inside) ≡ Some (k, now) → (l : List ℕ) × (run modal (body ∷ behind_body) inside ≡ Some (l, now))
head-run modal language body e n role inside f k now h =
    let s1 = run-step modal (items ∷ []) (lower language) (open_round ∷ name_token n ∷ comma ∷ lower role ∷ comma ∷ inside) k now (0, head_of body) h e in
    let s2 = run-step modal (head_of body) open_round (name_token n ∷ comma ∷ lower role ∷ comma ∷ inside) s1.0 now (0, name ∷ this a_comma 0 ∷ this a_lower 0 ∷ this a_comma 0 ∷ body ∷ behind_body) s1.1 refl in
    let s3 = run-step modal (name ∷ this a_comma 0 ∷ this a_lower 0 ∷ this a_comma 0 ∷ body ∷ behind_body) (name_token n) (comma ∷ lower role ∷ comma ∷ inside) s2.0 now (0, this a_comma 0 ∷ this a_lower 0 ∷ this a_comma 0 ∷ body ∷ behind_body) s2.1 (name-step modal n (this a_comma 0 ∷ this a_lower 0 ∷ this a_comma 0 ∷ body ∷ behind_body) f) in
    let s4 = run-step modal (this a_comma 0 ∷ this a_lower 0 ∷ this a_comma 0 ∷ body ∷ behind_body) comma (lower role ∷ comma ∷ inside) s3.0 now (0, this a_lower 0 ∷ this a_comma 0 ∷ body ∷ behind_body) s3.1 refl in
    let s5 = run-step modal (this a_lower 0 ∷ this a_comma 0 ∷ body ∷ behind_body) (lower role) (comma ∷ inside) s4.0 now (0, this a_comma 0 ∷ body ∷ behind_body) s4.1 refl in
    run-step modal (this a_comma 0 ∷ body ∷ behind_body) comma inside s5.0 now (0, body ∷ behind_body) s5.1 refl

part-in-body : (e : Expected) (es : List Expected) → is_part e ≡ true → is_in_body es ≡ true → is_in_body (e ∷ es) ≡ true
part-in-body e es h q = by (is_after_body e) (and_from (is_part e) (is_in_body es) h q)
  where
    by : (b : Bool) → (is_part e && is_in_body es) ≡ true → (b || (is_part e && is_in_body es)) ≡ true
    by true k = refl
    by false k = k

parts-in-body : (parts : List Expected) → are_parts parts ≡ true → is_in_body (parts ++ behind_body) ≡ true
parts-in-body [] h = refl
parts-in-body (e ∷ es) h = let p = and_parts (is_part e) (are_parts es) h in part-in-body e (es ++ behind_body) p.0 (parts-in-body es p.1)

stands-stack : (modal : Bool) (language : List ℕ) (L : Language) (body : Expected) → is_part body ≡ true → IsReadBy modal L (body ∷ stop ∷ []) → step modal (items ∷ []) (lower language) ≡ Some (0, head_of body)
    → (front : List Terminal) (k : List ℕ) (now : List Expected) → StandsIn modal language L front → run modal (items ∷ []) front ≡ Some (k, now) → is_in_body now ≡ true
stands-stack modal language L body p m e front k now s h =
    let w : run modal (items ∷ []) (text_tokens s.0 ++ (head_tokens language s.1 s.2 ++ s.3)) ≡ Some (k, now) =
    ap (run modal (items ∷ [])) (sym (append_assoc (text_tokens s.0) (head_tokens language s.1 s.2) s.3) ∙ sym s.6) ∙ h in
    let c = cut-run modal (text_tokens s.0) (head_tokens language s.1 s.2 ++ s.3) (items ∷ []) now k w in
    let i : c.0 ≡ items ∷ [] = items-now modal (text_tokens s.0) _ c.1 c.0 (s.0, s.4, refl, refl) c.3 in
    let b = head-run modal language body e s.1 s.2 s.3 s.5 c.2 now (ap (λ z. run modal z (head_tokens language s.1 s.2 ++ s.3)) (sym i) ∙ c.4) in
    let f = follows-run modal L (body ∷ stop ∷ []) m s.3 s.7.0 s.7.1.0 s.7.1.1 in
    by b.0 b.1 f.now f.before f.is_run (f.rest, f.is_step)
  where
    by : (l : List ℕ) → run modal (body ∷ behind_body) s.3 ≡ Some (l, now) → (fs : List Expected) (q : List ℕ) → run modal (body ∷ stop ∷ []) s.3 ≡ Some (q, fs) → (rest : List Expected) × (step modal fs s.7.0 ≡ Some (s.7.1.0, rest)) → is_in_body now ≡ true
    by l z [] q r t = absurd (none_some t.1)
    by l z (y ∷ fs) q r t =
        let a = above-run modal behind_body s.3 (body ∷ []) q y fs (and_from (is_part body) true p refl) r in
        subst (λ g. is_in_body g ≡ true) (ap (λ v. v.1) (some-is (sym a.is_run ∙ z))) (parts-in-body a.next a.parts)

-- Behind tokens that stand in a formula the stack has parts of formulas, and then what follows a formula.
pub in-formula-stack : (modal : Bool) (front : List Terminal) (k : List ℕ) (now : List Expected) → InFormula modal front → run modal (items ∷ []) front ≡ Some (k, now) → is_in_body now ≡ true
in-formula-stack true front k now s h = stands-stack true (codes "qmf") (FormulaLanguage true) (formula 0) refl (formula-read true) refl front k now s h
in-formula-stack false front k now (inl s) h = stands-stack false (codes "fof") (FormulaLanguage false) (formula 0) refl (formula-read false) refl front k now s h
in-formula-stack false front k now (inr s) h = stands-stack false (codes "cnf") ClauseLanguage clause refl (clause-read false) refl front k now s h
