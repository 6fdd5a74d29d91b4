-- Derivations by the stack of what is expected, and that tokens have at most one: where one token of look-ahead chooses.
use Rattle.std.proofs.Common.{◌≡◌, ◌==◌, ◌&&◌, ℕ, ◌<◌, ◌≤◌, suc, Bool, true, false, List, [], ◌∷◌, ◌++◌, Option, None, Some, refl, sym, ◌∙◌, ap, append_assoc, subst, arith, IsTrue}
use Rattle.std.specs.Prelude.{codes, if◌then◌else◌, nat_lt}
use Rattle.tptp_lex.specs.Tokens.{is_digits}
use Rattle.std.proofs.lemmas.Bool.{false≢true, lt-ltb, ltb-true, ne_eqb}
use Rattle.plain_laws.proofs.Options.{none_some}
use Rattle.tptp_lex.proofs.Runs.{some-is}
use Rattle.tptp_reader.specs.declared.source.ChainKind.{ChainKind}
use Rattle.tptp_reader.specs.declared.source.ChainKind.TheVariants.{And, Or}
use Rattle.tptp_reader.specs.Terminals.{Terminal, lower, upper, quoted, number, dollar, hash, open_round, close_round, open_square, close_square, comma, tilde, exclamation, question, ampersand, bar, implies, implied, equivalent, inequivalent, nor, nand, equal, unequal}
use Rattle.tptp_reader.specs.Expecting.{Expected, Fixed, an_opening, a_closing, a_square, a_comma, a_dot, a_lower, an_upper, a_quoted, form_of, this, term, arguments, some_arguments, some_equation, equation, atom, variables, unit, formula, formula_rest, chain_rest, stop, literal, unsigned, literals_rest, clause, clause_open, clause_rest, items, name, after_body, first_note, notes, include_rest, names_rest, move, is_optional, moved, step, form, before, head_of, this_move, term_move, arguments_move, some_arguments_move, equation_move, dollar_move, is_truth, atom_move, variables_move, modal_move, is_modality, unit_move, formula_rest_move, chain_rest_move, stop_move, unsigned_move, literal_move, literals_rest_move, clause_move, clause_open_move, clause_rest_move, is_word, items_move, name_move, after_body_move, notes_move, first_note_move, include_rest_move, names_rest_move}

pub data Derives (modal : Bool) : List Expected → List Terminal → List ℕ → Type 0 where
  ends : Derives modal [] [] []
  takes : {e : Expected} {es new : List Expected} {x : Terminal} {n : ℕ} {ts : List Terminal} {ns : List ℕ} → move modal e x ≡ Some (n, new) → Derives modal (new ++ es) ts ns → Derives modal (e ∷ es) (x ∷ ts) (n ∷ ns)
  skips : {e : Expected} {es : List Expected} {ts : List Terminal} {ns : List ℕ} → is_optional e ≡ true → Derives modal es ts ns → Derives modal (e ∷ es) ts ns

pub reassociated : {modal : Bool} {es : List Expected} (a b c : List Terminal) (k l m : List ℕ) → Derives modal es (a ++ (b ++ c)) (k ++ (l ++ m)) → Derives modal es ((a ++ b) ++ c) ((k ++ l) ++ m)
reassociated {modal} {es} a b c k l m h = subst (λ t. Derives modal es t ((k ++ l) ++ m)) (sym (append_assoc a b c)) (subst (λ n. Derives modal es (a ++ (b ++ c)) n) (sym (append_assoc k l m)) h)

lt-of : (a b : ℕ) → IsTrue (nat_lt a b) → a < b
lt-of a b h = ltb-true a b h

lt-true : (a b : ℕ) → a < b → IsTrue (nat_lt a b)
lt-true a b h = lt-ltb a b h

differ : (a b : ℕ) → a < b → (a == b) ≡ false
differ a b h = ne_eqb a b (λ e. omega arith)

-- ---- what follows an expected part does not begin with a token that may still belong to it

-- the forms of tokens below this number may go on a part that is expected
abbrev pub bound : Expected → ℕ
bound (this k d) = 0
bound (term d) = 1
bound (arguments d) = 0
bound (some_arguments d) = 1
bound (some_equation d) = 3
bound (equation d) = 1
bound (atom d) = 3
bound (variables d) = 0
bound (unit d) = 3
bound (formula d) = 11
bound (formula_rest d) = 11
bound (chain_rest c d) = 11
bound stop = 0
bound (literal d) = 3
bound (unsigned d) = 3
bound (literals_rest d) = 11
bound clause = 11
bound clause_open = 11
bound clause_rest = 11
bound items = 21
bound _ = 0

abbrev pub Avoids : Bool → ℕ → List Expected → Type 0
Avoids modal b es = (x : Terminal) → IsTrue (nat_lt (form x) b) → step modal es x ≡ None

abbrev pub IsGood : Bool → List Expected → Type 0
IsGood modal [] = Unit {0}
IsGood modal (e ∷ es) = Avoids modal (bound e) es × IsGood modal es

pub avoids-less : (modal : Bool) (a b : ℕ) (es : List Expected) → a ≤ b → Avoids modal b es → Avoids modal a es
avoids-less modal a b es n h x l = h x (lt-true (form x) b (let m = lt-of (form x) a l in omega arith))

pub avoids-none : (modal : Bool) (es : List Expected) → Avoids modal 0 es
avoids-none modal es x l = let m = lt-of (form x) 0 l in absurd (omega arith)

pub avoids-nothing : (modal : Bool) (b : ℕ) → Avoids modal b []
avoids-nothing modal b x l = refl

-- a part that has no move on these tokens, and may not be left out
pub avoids-part : (modal : Bool) (b : ℕ) (e : Expected) (es : List Expected) → is_optional e ≡ false → ((x : Terminal) → IsTrue (nat_lt (form x) b) → move modal e x ≡ None) → Avoids modal b (e ∷ es)
avoids-part modal b e es o h x l = ap (λ m. moved m (is_optional e) es (step modal es x)) (h x l) ∙ ap (λ q. moved None q es (step modal es x)) o

-- a part that has no move on these tokens, before one that has none
pub avoids-over : (modal : Bool) (b : ℕ) (e : Expected) (es : List Expected) → ((x : Terminal) → IsTrue (nat_lt (form x) b) → move modal e x ≡ None) → Avoids modal b es → Avoids modal b (e ∷ es)
avoids-over modal b e es h k x l = ap (λ m. moved m (is_optional e) es (step modal es x)) (h x l) ∙ by (is_optional e)
  where
    by : (q : Bool) → moved None q es (step modal es x) ≡ None
    by true = k x l
    by false = refl

pub avoids-this : (modal : Bool) (b : ℕ) (k : Fixed) (d : ℕ) (es : List Expected) → b ≤ form_of k → Avoids modal b (this k d ∷ es)
avoids-this modal b k d es n = avoids-part modal b (this k d) es refl (λ x l. ap (λ q. this_move q d) (differ (form x) (form_of k) (let m = lt-of (form x) b l in omega arith)))

-- ---- which parts have no move on which tokens

equation-apart : (d : ℕ) (x : Terminal) → IsTrue (nat_lt (form x) 1) → equation_move d x ≡ None
equation-apart d equal h = absurd (false≢true h)
equation-apart d unequal h = absurd (false≢true h)
equation-apart d _ h = refl

formula_rest-apart : (d : ℕ) (x : Terminal) → IsTrue (nat_lt (form x) 3) → formula_rest_move d x ≡ None
formula_rest-apart d ampersand h = absurd (false≢true h)
formula_rest-apart d bar h = absurd (false≢true h)
formula_rest-apart d implies h = absurd (false≢true h)
formula_rest-apart d implied h = absurd (false≢true h)
formula_rest-apart d equivalent h = absurd (false≢true h)
formula_rest-apart d inequivalent h = absurd (false≢true h)
formula_rest-apart d nor h = absurd (false≢true h)
formula_rest-apart d nand h = absurd (false≢true h)
formula_rest-apart d _ h = refl

chain_rest-apart : (c : ChainKind) (d : ℕ) (x : Terminal) → IsTrue (nat_lt (form x) 3) → chain_rest_move c d x ≡ None
chain_rest-apart And d ampersand h = absurd (false≢true h)
chain_rest-apart Or d bar h = absurd (false≢true h)
chain_rest-apart And d _ h = refl
chain_rest-apart Or d _ h = refl

literals_rest-apart : (d : ℕ) (x : Terminal) → IsTrue (nat_lt (form x) 3) → literals_rest_move d x ≡ None
literals_rest-apart d bar h = absurd (false≢true h)
literals_rest-apart d _ h = refl

clause_rest-apart : (x : Terminal) → IsTrue (nat_lt (form x) 3) → clause_rest_move x ≡ None
clause_rest-apart bar h = absurd (false≢true h)
clause_rest-apart close_round h = absurd (false≢true h)
clause_rest-apart _ h = refl

arguments-apart : (d : ℕ) (x : Terminal) → IsTrue (nat_lt (form x) 11) → arguments_move d x ≡ None
arguments-apart d comma h = absurd (false≢true h)
arguments-apart d close_round h = absurd (false≢true h)
arguments-apart d _ h = refl

pub stop-apart : (x : Terminal) → IsTrue (nat_lt (form x) 11) → stop_move x ≡ None
stop-apart comma h = absurd (false≢true h)
stop-apart close_round h = absurd (false≢true h)
stop-apart _ h = refl

after_body-apart : (x : Terminal) → IsTrue (nat_lt (form x) 11) → after_body_move x ≡ None
after_body-apart comma h = absurd (false≢true h)
after_body-apart close_round h = absurd (false≢true h)
after_body-apart _ h = refl

-- ---- a move leaves a good stack

made : (modal : Bool) (es : List Expected) {new : List Expected} {n : ℕ} {r : ℕ × List Expected} → Some (n, new) ≡ Some r → IsGood modal (new ++ es) → IsGood modal (r.1 ++ es)
made modal es e g = subst (λ q. IsGood modal (q.1 ++ es)) (some-is e) g

pub record Before (rest : List Expected) (m : Option (ℕ × List Expected)) (r : ℕ × List Expected) : Type 0 where
  pub first : ℕ × List Expected
  pub there : m ≡ Some first
  pub joined : r ≡ (first.0, first.1 ++ rest)

pub before-some : (rest : List Expected) (m : Option (ℕ × List Expected)) (r : ℕ × List Expected) → before rest m ≡ Some r → Before rest m r
before-some rest None r e = absurd (none_some e)
before-some rest (Some q) r e = record { first = q; there = refl; joined = sym (some-is e) }

-- the good stacks of a first part, with what follows it
before-good : (modal : Bool) (rest es : List Expected) (m : Option (ℕ × List Expected)) (r : ℕ × List Expected) → before rest m ≡ Some r → ((q : ℕ × List Expected) → m ≡ Some q → IsGood modal (q.1 ++ (rest ++ es))) → IsGood modal (r.1 ++ es)
before-good modal rest es m r e g =
    let b = before-some rest m r e in
    subst (λ q. IsGood modal (q.1 ++ es)) (sym b.joined) (subst (IsGood modal) (sym (append_assoc b.first.1 rest es)) (g b.first b.there))

abbrev Goods : Bool → ℕ → (Terminal → Option (ℕ × List Expected)) → Type 0
Goods modal b mv = (x : Terminal) (es : List Expected) (r : ℕ × List Expected) → Avoids modal b es → IsGood modal es → mv x ≡ Some r → IsGood modal (r.1 ++ es)

this-good : (modal : Bool) (k : Fixed) (d : ℕ) → Goods modal 0 (λ x. this_move (form x == form_of k) d)
this-good modal k d x es r a g e = by (form x == form_of k) e
  where
    by : (q : Bool) → this_move q d ≡ Some r → IsGood modal (r.1 ++ es)
    by true h = made modal es h g
    by false h = absurd (none_some h)

term-good : (modal : Bool) (d : ℕ) → Goods modal 1 (term_move d)
term-good modal d (upper x) es r a g e = made modal es e g
term-good modal d (lower w) es r a g e = made modal es e (a, g)
term-good modal d (quoted w) es r a g e = made modal es e (a, g)
term-good modal d _ es r a g e = absurd (none_some e)

-- a term, and what follows it in brackets
pub with_arguments : (modal : Bool) (d : ℕ) (es : List Expected) → IsGood modal es → IsGood modal (term d ∷ arguments d ∷ es)
with_arguments modal d es g = (avoids-part modal 1 (arguments d) es refl (λ x l. arguments-apart d x (lt-true (form x) 11 (let m = lt-of (form x) 1 l in omega arith))), (avoids-none modal es, g))

arguments-good : (modal : Bool) (d : ℕ) → Goods modal 0 (arguments_move d)
arguments-good modal d comma es r a g e = made modal es e (with_arguments modal d es g)
arguments-good modal d close_round es r a g e = made modal es e g
arguments-good modal d _ es r a g e = absurd (none_some e)

some_arguments-good : (modal : Bool) (d : ℕ) → Goods modal 1 (some_arguments_move d)
some_arguments-good modal d open_round es r a g e = made modal es e (with_arguments modal (suc d) es g)
some_arguments-good modal d _ es r a g e = absurd (none_some e)

equation-good : (modal : Bool) (d : ℕ) → Goods modal 1 (equation_move d)
equation-good modal d equal es r a g e = made modal es e (a, g)
equation-good modal d unequal es r a g e = made modal es e (a, g)
equation-good modal d _ es r a g e = absurd (none_some e)

dollar-good : (modal : Bool) (d : ℕ) (q : Bool) (es : List Expected) (r : ℕ × List Expected) → IsGood modal es → dollar_move q d ≡ Some r → IsGood modal (r.1 ++ es)
dollar-good modal d true es r g e = made modal es e g
dollar-good modal d false es r g e = absurd (none_some e)

word-good : (modal : Bool) (d : ℕ) (es : List Expected) → Avoids modal 3 es → IsGood modal es → IsGood modal (some_arguments d ∷ some_equation d ∷ es)
word-good modal d es a g = (avoids-over modal 1 (some_equation d) es (equation-apart d) (avoids-less modal 1 3 es (omega arith) a), (a, g))

atom-good : (modal : Bool) (d : ℕ) → Goods modal 3 (atom_move d)
atom-good modal d (dollar w) es r a g e = dollar-good modal d (is_truth w) es r g e
atom-good modal d (upper x) es r a g e = made modal es e (avoids-less modal 1 3 es (omega arith) a, g)
atom-good modal d (lower w) es r a g e = made modal es e (word-good modal d es a g)
atom-good modal d (quoted w) es r a g e = made modal es e (word-good modal d es a g)
atom-good modal d _ es r a g e = absurd (none_some e)

variables-good : (modal : Bool) (d : ℕ) → Goods modal 0 (variables_move d)
variables-good modal d comma es r a g e = made modal es e (avoids-none modal (variables d ∷ es), (a, g))
variables-good modal d close_square es r a g e = made modal es e (a, g)
variables-good modal d _ es r a g e = absurd (none_some e)

modal-good : (modal q : Bool) (d : ℕ) (es : List Expected) (r : ℕ × List Expected) → Avoids modal 3 es → IsGood modal es → modal_move q d ≡ Some r → IsGood modal (r.1 ++ es)
modal-good modal true d es r a g e = made modal es e (avoids-none modal (unit (suc d) ∷ es), (a, g))
modal-good modal false d es r a g e = absurd (none_some e)

plain-good : (modal : Bool) (e : Expected) (es : List Expected) → bound e ≡ 0 → IsGood modal es → IsGood modal (e ∷ es)
plain-good modal e es q g = (subst (λ b. Avoids modal b es) (sym q) (avoids-none modal es), g)

closing-good : (modal : Bool) (d : ℕ) (es : List Expected) → IsGood modal es → IsGood modal (this a_closing d ∷ es)
closing-good modal d es g = (avoids-none modal es, g)

prefix-good : (modal : Bool) (d : ℕ) (es : List Expected) → Avoids modal 3 es → IsGood modal es → IsGood modal (this a_square d ∷ this an_upper d ∷ variables d ∷ unit (suc d) ∷ es)
prefix-good modal d es a g =
    plain-good modal (this a_square d) (this an_upper d ∷ variables d ∷ unit (suc d) ∷ es) refl
    (plain-good modal (this an_upper d) (variables d ∷ unit (suc d) ∷ es) refl
    (plain-good modal (variables d) (unit (suc d) ∷ es) refl (a, g)))

unit-good : (modal : Bool) (d : ℕ) → Goods modal 3 (unit_move modal d)
unit-good modal d open_round es r a g e = made modal es e (avoids-this modal 11 a_closing (suc d) es (omega arith), closing-good modal (suc d) es g)
unit-good modal d tilde es r a g e = made modal es e (a, g)
unit-good modal d exclamation es r a g e = made modal es e (prefix-good modal d es a g)
unit-good modal d question es r a g e = made modal es e (prefix-good modal d es a g)
unit-good modal d (hash w) es r a g e = modal-good modal (modal && is_modality w) d es r a g e
unit-good modal d (dollar w) es r a g e = atom-good modal d (dollar w) es r a g e
unit-good modal d (upper w) es r a g e = atom-good modal d (upper w) es r a g e
unit-good modal d (lower w) es r a g e = atom-good modal d (lower w) es r a g e
unit-good modal d (quoted w) es r a g e = atom-good modal d (quoted w) es r a g e
unit-good modal d _ es r a g e = absurd (none_some e)

formula-good : (modal : Bool) (d : ℕ) → Goods modal 11 (λ x. before (formula_rest d ∷ []) (unit_move modal d x))
formula-good modal d x es r a g e =
    before-good modal (formula_rest d ∷ []) es (unit_move modal d x) r e
    (λ q h. unit-good modal d x (formula_rest d ∷ es) q (avoids-over modal 3 (formula_rest d) es (formula_rest-apart d) (avoids-less modal 3 11 es (omega arith) a)) (a, g) h)

chained-good : (modal : Bool) (c : ChainKind) (d : ℕ) (es : List Expected) → Avoids modal 11 es → IsGood modal es → IsGood modal (unit d ∷ chain_rest c d ∷ es)
chained-good modal c d es a g = (avoids-over modal 3 (chain_rest c d) es (chain_rest-apart c d) (avoids-less modal 3 11 es (omega arith) a), (a, g))

operand-good : (modal : Bool) (d : ℕ) (es : List Expected) → Avoids modal 11 es → IsGood modal es → IsGood modal (unit d ∷ es)
operand-good modal d es a g = (avoids-less modal 3 11 es (omega arith) a, g)

formula_rest-good : (modal : Bool) (d : ℕ) → Goods modal 11 (formula_rest_move d)
formula_rest-good modal d ampersand es r a g e = made modal es e (chained-good modal And d es a g)
formula_rest-good modal d bar es r a g e = made modal es e (chained-good modal Or d es a g)
formula_rest-good modal d implies es r a g e = made modal es e (operand-good modal d es a g)
formula_rest-good modal d implied es r a g e = made modal es e (operand-good modal d es a g)
formula_rest-good modal d equivalent es r a g e = made modal es e (operand-good modal d es a g)
formula_rest-good modal d inequivalent es r a g e = made modal es e (operand-good modal d es a g)
formula_rest-good modal d nor es r a g e = made modal es e (operand-good modal d es a g)
formula_rest-good modal d nand es r a g e = made modal es e (operand-good modal d es a g)
formula_rest-good modal d _ es r a g e = absurd (none_some e)

chain_rest-good : (modal : Bool) (c : ChainKind) (d : ℕ) → Goods modal 11 (chain_rest_move c d)
chain_rest-good modal And d ampersand es r a g e = made modal es e (chained-good modal And d es a g)
chain_rest-good modal Or d bar es r a g e = made modal es e (chained-good modal Or d es a g)
chain_rest-good modal And d _ es r a g e = absurd (none_some e)
chain_rest-good modal Or d _ es r a g e = absurd (none_some e)

stop-good : (modal : Bool) → Goods modal 0 stop_move
stop-good modal comma es r a g e = made modal es e g
stop-good modal close_round es r a g e = made modal es e g
stop-good modal _ es r a g e = absurd (none_some e)

-- ---- clauses

atom-closed : (modal : Bool) (d : ℕ) (es : List Expected) → IsGood modal es → IsGood modal (atom d ∷ this a_closing d ∷ es)
atom-closed modal d es g = (avoids-this modal 3 a_closing d es (omega arith), closing-good modal d es g)

unsigned-good : (modal : Bool) (d : ℕ) → Goods modal 3 (unsigned_move d)
unsigned-good modal d open_round es r a g e = made modal es e (atom-closed modal (suc d) es g)
unsigned-good modal d (dollar w) es r a g e = atom-good modal d (dollar w) es r a g e
unsigned-good modal d (upper w) es r a g e = atom-good modal d (upper w) es r a g e
unsigned-good modal d (lower w) es r a g e = atom-good modal d (lower w) es r a g e
unsigned-good modal d (quoted w) es r a g e = atom-good modal d (quoted w) es r a g e
unsigned-good modal d _ es r a g e = absurd (none_some e)

literal-good : (modal : Bool) (d : ℕ) → Goods modal 3 (literal_move d)
literal-good modal d tilde es r a g e = made modal es e (a, g)
literal-good modal d open_round es r a g e = unsigned-good modal d open_round es r a g e
literal-good modal d (dollar w) es r a g e = unsigned-good modal d (dollar w) es r a g e
literal-good modal d (upper w) es r a g e = unsigned-good modal d (upper w) es r a g e
literal-good modal d (lower w) es r a g e = unsigned-good modal d (lower w) es r a g e
literal-good modal d (quoted w) es r a g e = unsigned-good modal d (quoted w) es r a g e
literal-good modal d _ es r a g e = absurd (none_some e)

over-literals : (modal : Bool) (d : ℕ) (es : List Expected) → Avoids modal 11 es → Avoids modal 3 (literals_rest d ∷ es)
over-literals modal d es a = avoids-over modal 3 (literals_rest d) es (literals_rest-apart d) (avoids-less modal 3 11 es (omega arith) a)

-- literals up to a closing bracket
literals-closed : (modal : Bool) (d k : ℕ) (es : List Expected) → IsGood modal es → Avoids modal 3 (literals_rest d ∷ this a_closing k ∷ es) × IsGood modal (literals_rest d ∷ this a_closing k ∷ es)
literals-closed modal d k es g = let a = avoids-this modal 11 a_closing k es (omega arith) in (over-literals modal d (this a_closing k ∷ es) a, (a, closing-good modal k es g))

literals_rest-good : (modal : Bool) (d : ℕ) → Goods modal 11 (literals_rest_move d)
literals_rest-good modal d bar es r a g e = made modal es e (over-literals modal d es a, (a, g))
literals_rest-good modal d _ es r a g e = absurd (none_some e)

atom-before : (modal : Bool) (d : ℕ) (x : Terminal) (rest es : List Expected) (r : ℕ × List Expected) → Avoids modal 3 (rest ++ es) → IsGood modal (rest ++ es) → before rest (atom_move d x) ≡ Some r → IsGood modal (r.1 ++ es)
atom-before modal d x rest es r a g e = before-good modal rest es (atom_move d x) r e (λ q h. atom-good modal d x (rest ++ es) q a g h)

clause-good : (modal : Bool) → Goods modal 11 clause_move
clause-good modal open_round es r a g e = made modal es e (a, g)
clause-good modal tilde es r a g e = made modal es e (over-literals modal 0 es a, (a, g))
clause-good modal (dollar w) es r a g e = atom-before modal 0 (dollar w) (literals_rest 0 ∷ []) es r (over-literals modal 0 es a) (a, g) e
clause-good modal (upper w) es r a g e = atom-before modal 0 (upper w) (literals_rest 0 ∷ []) es r (over-literals modal 0 es a) (a, g) e
clause-good modal (lower w) es r a g e = atom-before modal 0 (lower w) (literals_rest 0 ∷ []) es r (over-literals modal 0 es a) (a, g) e
clause-good modal (quoted w) es r a g e = atom-before modal 0 (quoted w) (literals_rest 0 ∷ []) es r (over-literals modal 0 es a) (a, g) e
clause-good modal _ es r a g e = absurd (none_some e)

clause_rest-over : (modal : Bool) (es : List Expected) → Avoids modal 3 (clause_rest ∷ es)
clause_rest-over modal es = avoids-part modal 3 clause_rest es refl clause_rest-apart

clause_open-good : (modal : Bool) → Goods modal 11 clause_open_move
clause_open-good modal tilde es r a g e = made modal es e (literals-closed modal 1 1 es g)
clause_open-good modal open_round es r a g e = made modal es e (atom-closed modal 2 (literals_rest 1 ∷ this a_closing 1 ∷ es) (literals-closed modal 1 1 es g).1)
clause_open-good modal (dollar w) es r a g e = atom-before modal 1 (dollar w) (clause_rest ∷ []) es r (clause_rest-over modal es) (a, g) e
clause_open-good modal (upper w) es r a g e = atom-before modal 1 (upper w) (clause_rest ∷ []) es r (clause_rest-over modal es) (a, g) e
clause_open-good modal (lower w) es r a g e = atom-before modal 1 (lower w) (clause_rest ∷ []) es r (clause_rest-over modal es) (a, g) e
clause_open-good modal (quoted w) es r a g e = atom-before modal 1 (quoted w) (clause_rest ∷ []) es r (clause_rest-over modal es) (a, g) e
clause_open-good modal _ es r a g e = absurd (none_some e)

clause_rest-good : (modal : Bool) → Goods modal 11 clause_rest_move
clause_rest-good modal bar es r a g e = made modal es e (literals-closed modal 1 1 es g)
clause_rest-good modal close_round es r a g e = made modal es e (a, g)
clause_rest-good modal _ es r a g e = absurd (none_some e)

-- ---- items

flag-good : (modal q : Bool) (d : ℕ) (es : List Expected) (r : ℕ × List Expected) → IsGood modal es → this_move q d ≡ Some r → IsGood modal (r.1 ++ es)
flag-good modal true d es r g e = made modal es e g
flag-good modal false d es r g e = absurd (none_some e)

name-good : (modal : Bool) → Goods modal 0 name_move
name-good modal (lower w) es r a g e = made modal es e g
name-good modal (quoted w) es r a g e = made modal es e g
name-good modal (number w) es r a g e = flag-good modal (is_digits w) 0 es r g e
name-good modal _ es r a g e = absurd (none_some e)

after_body-good : (modal : Bool) → Goods modal 0 after_body_move
after_body-good modal comma es r a g e = made modal es e (plain-good modal first_note es refl g)
after_body-good modal close_round es r a g e = made modal es e g
after_body-good modal _ es r a g e = absurd (none_some e)

notes-plain : (modal : Bool) (waiting : List Bool) (es : List Expected) → IsGood modal es → IsGood modal (notes waiting ∷ es)
notes-plain modal waiting es g = plain-good modal (notes waiting) es refl g

notes-good : (modal : Bool) (waiting : List Bool) → Goods modal 0 (notes_move waiting)
notes-good modal waiting open_round es r a g e = made modal es e (notes-plain modal (true ∷ waiting) es g)
notes-good modal waiting open_square es r a g e = made modal es e (notes-plain modal (false ∷ waiting) es g)
notes-good modal [] close_round es r a g e = made modal es e g
notes-good modal (true ∷ waiting) close_round es r a g e = made modal es e (notes-plain modal waiting es g)
notes-good modal (false ∷ waiting) close_round es r a g e = absurd (none_some e)
notes-good modal [] close_square es r a g e = absurd (none_some e)
notes-good modal (true ∷ waiting) close_square es r a g e = absurd (none_some e)
notes-good modal (false ∷ waiting) close_square es r a g e = made modal es e (notes-plain modal waiting es g)
notes-good modal [] _ es r a g e = made modal es e (notes-plain modal [] es g)
notes-good modal (b ∷ waiting) _ es r a g e = made modal es e (notes-plain modal (b ∷ waiting) es g)

first_note-good : (modal : Bool) → Goods modal 0 first_note_move
first_note-good modal close_round es r a g e = absurd (none_some e)
first_note-good modal open_round es r a g e = notes-good modal [] open_round es r a g e
first_note-good modal open_square es r a g e = notes-good modal [] open_square es r a g e
first_note-good modal close_square es r a g e = absurd (none_some e)
first_note-good modal _ es r a g e = made modal es e (notes-plain modal [] es g)

include_rest-good : (modal : Bool) → Goods modal 0 include_rest_move
include_rest-good modal comma es r a g e =
    made modal es e (plain-good modal (this a_square 0) (name ∷ names_rest ∷ es) refl (plain-good modal name (names_rest ∷ es) refl (plain-good modal names_rest es refl g)))
include_rest-good modal close_round es r a g e = made modal es e g
include_rest-good modal _ es r a g e = absurd (none_some e)

names_rest-good : (modal : Bool) → Goods modal 0 names_rest_move
names_rest-good modal comma es r a g e = made modal es e (plain-good modal name (names_rest ∷ es) refl (plain-good modal names_rest es refl g))
names_rest-good modal close_square es r a g e = made modal es e (plain-good modal (this a_closing 0) es refl g)
names_rest-good modal _ es r a g e = absurd (none_some e)

end-good : (modal : Bool) (es : List Expected) → Avoids modal 21 es → IsGood modal es → IsGood modal (this a_dot 0 ∷ items ∷ es)
end-good modal es a g = plain-good modal (this a_dot 0) (items ∷ es) refl (a, g)

head-good : (modal : Bool) (body : Expected) (es : List Expected) → IsGood modal (body ∷ after_body ∷ this a_dot 0 ∷ items ∷ es) → IsGood modal (head_of body ++ es)
head-good modal body es g =
    plain-good modal (this an_opening 0) (name ∷ this a_comma 0 ∷ this a_lower 0 ∷ this a_comma 0 ∷ body ∷ after_body ∷ this a_dot 0 ∷ items ∷ es) refl
    (plain-good modal name (this a_comma 0 ∷ this a_lower 0 ∷ this a_comma 0 ∷ body ∷ after_body ∷ this a_dot 0 ∷ items ∷ es) refl
    (plain-good modal (this a_comma 0) (this a_lower 0 ∷ this a_comma 0 ∷ body ∷ after_body ∷ this a_dot 0 ∷ items ∷ es) refl
    (plain-good modal (this a_lower 0) (this a_comma 0 ∷ body ∷ after_body ∷ this a_dot 0 ∷ items ∷ es) refl
    (plain-good modal (this a_comma 0) (body ∷ after_body ∷ this a_dot 0 ∷ items ∷ es) refl g))))

body-good : (modal : Bool) (body : Expected) (es : List Expected) → bound body ≡ 11 → Avoids modal 21 es → IsGood modal es → IsGood modal (head_of body ++ es)
body-good modal body es q a g =
    head-good modal body es (
      subst (λ b. Avoids modal b (after_body ∷ this a_dot 0 ∷ items ∷ es)) (sym q) (avoids-part modal 11 after_body (this a_dot 0 ∷ items ∷ es) refl after_body-apart),
      plain-good modal after_body (this a_dot 0 ∷ items ∷ es) refl (end-good modal es a g),
    )

include-good : (modal : Bool) (es : List Expected) → Avoids modal 21 es → IsGood modal es → IsGood modal (this an_opening 0 ∷ this a_quoted 0 ∷ include_rest ∷ this a_dot 0 ∷ items ∷ es)
include-good modal es a g =
    plain-good modal (this an_opening 0) (this a_quoted 0 ∷ include_rest ∷ this a_dot 0 ∷ items ∷ es) refl
    (plain-good modal (this a_quoted 0) (include_rest ∷ this a_dot 0 ∷ items ∷ es) refl
    (plain-good modal include_rest (this a_dot 0 ∷ items ∷ es) refl (end-good modal es a g)))

-- a language that is not the text's has no move
other-good : (modal q : Bool) (body : Expected) (es : List Expected) (r : ℕ × List Expected) → bound body ≡ 11 → Avoids modal 21 es → IsGood modal es → (if q then None else Some (0, head_of body)) ≡ Some r → IsGood modal (r.1 ++ es)
other-good modal true body es r q a g e = absurd (none_some e)
other-good modal false body es r q a g e = made modal es e (body-good modal body es q a g)

this_one-good : (modal q : Bool) (body : Expected) (es : List Expected) (r : ℕ × List Expected) → bound body ≡ 11 → Avoids modal 21 es → IsGood modal es → (if q then Some (0, head_of body) else None) ≡ Some r → IsGood modal (r.1 ++ es)
this_one-good modal false body es r q a g e = absurd (none_some e)
this_one-good modal true body es r q a g e = made modal es e (body-good modal body es q a g)

word_move-good : (modal i f c m : Bool) (es : List Expected) (r : ℕ × List Expected) → Avoids modal 21 es → IsGood modal es
    → (if i then Some (0, this an_opening 0 ∷ this a_quoted 0 ∷ include_rest ∷ this a_dot 0 ∷ items ∷ [])
    else (if f then (if modal then None else Some (0, head_of (formula 0)))
    else (if c then (if modal then None else Some (0, head_of clause))
    else (if m then (if modal then Some (0, head_of (formula 0)) else None)
    else None)))) ≡ Some r → IsGood modal (r.1 ++ es)
word_move-good modal true f c m es r a g e = made modal es e (include-good modal es a g)
word_move-good modal false true c m es r a g e = other-good modal modal (formula 0) es r refl a g e
word_move-good modal false false true m es r a g e = other-good modal modal clause es r refl a g e
word_move-good modal false false false true es r a g e = this_one-good modal modal (formula 0) es r refl a g e
word_move-good modal false false false false es r a g e = absurd (none_some e)

items-good : (modal : Bool) → Goods modal 21 (items_move modal)
items-good modal (lower w) es r a g e =
    word_move-good modal (is_word w (codes "include")) (is_word w (codes "fof")) (is_word w (codes "cnf")) (is_word w (codes "qmf")) es r a g e
items-good modal _ es r a g e = absurd (none_some e)

-- ---- the stack

pub good-move : (modal : Bool) (e : Expected) (x : Terminal) (es : List Expected) (r : ℕ × List Expected) → Avoids modal (bound e) es → IsGood modal es → move modal e x ≡ Some r → IsGood modal (r.1 ++ es)
good-move modal (this k d) x es r a g h = this-good modal k d x es r a g h
good-move modal (term d) x es r a g h = term-good modal d x es r a g h
good-move modal (arguments d) x es r a g h = arguments-good modal d x es r a g h
good-move modal (some_arguments d) x es r a g h = some_arguments-good modal d x es r a g h
good-move modal (some_equation d) x es r a g h = equation-good modal d x es r (avoids-less modal 1 3 es (omega arith) a) g h
good-move modal (equation d) x es r a g h = equation-good modal d x es r a g h
good-move modal (atom d) x es r a g h = atom-good modal d x es r a g h
good-move modal (variables d) x es r a g h = variables-good modal d x es r a g h
good-move modal (unit d) x es r a g h = unit-good modal d x es r a g h
good-move modal (formula d) x es r a g h = formula-good modal d x es r a g h
good-move modal (formula_rest d) x es r a g h = formula_rest-good modal d x es r a g h
good-move modal (chain_rest c d) x es r a g h = chain_rest-good modal c d x es r a g h
good-move modal stop x es r a g h = stop-good modal x es r a g h
good-move modal (literal d) x es r a g h = literal-good modal d x es r a g h
good-move modal (unsigned d) x es r a g h = unsigned-good modal d x es r a g h
good-move modal (literals_rest d) x es r a g h = literals_rest-good modal d x es r a g h
good-move modal clause x es r a g h = clause-good modal x es r a g h
good-move modal clause_open x es r a g h = clause_open-good modal x es r a g h
good-move modal clause_rest x es r a g h = clause_rest-good modal x es r a g h
good-move modal items x es r a g h = items-good modal x es r a g h
good-move modal name x es r a g h = name-good modal x es r a g h
good-move modal after_body x es r a g h = after_body-good modal x es r a g h
good-move modal first_note x es r a g h = first_note-good modal x es r a g h
good-move modal (notes waiting) x es r a g h = notes-good modal waiting x es r a g h
good-move modal include_rest x es r a g h = include_rest-good modal x es r a g h
good-move modal names_rest x es r a g h = names_rest-good modal x es r a g h

-- a part that may be left out has moves on tokens below its bound alone
some_arguments-below : (d : ℕ) (x : Terminal) (r : ℕ × List Expected) → some_arguments_move d x ≡ Some r → IsTrue (nat_lt (form x) 1)
some_arguments-below d open_round r e = refl
some_arguments-below d _ r e = absurd (none_some e)

equation-below : (d : ℕ) (x : Terminal) (r : ℕ × List Expected) → equation_move d x ≡ Some r → IsTrue (nat_lt (form x) 3)
equation-below d equal r e = refl
equation-below d unequal r e = refl
equation-below d _ r e = absurd (none_some e)

formula_rest-below : (d : ℕ) (x : Terminal) (r : ℕ × List Expected) → formula_rest_move d x ≡ Some r → IsTrue (nat_lt (form x) 11)
formula_rest-below d ampersand r e = refl
formula_rest-below d bar r e = refl
formula_rest-below d implies r e = refl
formula_rest-below d implied r e = refl
formula_rest-below d equivalent r e = refl
formula_rest-below d inequivalent r e = refl
formula_rest-below d nor r e = refl
formula_rest-below d nand r e = refl
formula_rest-below d _ r e = absurd (none_some e)

chain_rest-below : (c : ChainKind) (d : ℕ) (x : Terminal) (r : ℕ × List Expected) → chain_rest_move c d x ≡ Some r → IsTrue (nat_lt (form x) 11)
chain_rest-below And d ampersand r e = refl
chain_rest-below Or d bar r e = refl
chain_rest-below And d _ r e = absurd (none_some e)
chain_rest-below Or d _ r e = absurd (none_some e)

literals_rest-below : (d : ℕ) (x : Terminal) (r : ℕ × List Expected) → literals_rest_move d x ≡ Some r → IsTrue (nat_lt (form x) 11)
literals_rest-below d bar r e = refl
literals_rest-below d _ r e = absurd (none_some e)

items-below : (modal : Bool) (x : Terminal) (r : ℕ × List Expected) → items_move modal x ≡ Some r → IsTrue (nat_lt (form x) 21)
items-below modal (lower w) r e = refl
items-below modal _ r e = absurd (none_some e)

below-bound : (modal : Bool) (e : Expected) (x : Terminal) (r : ℕ × List Expected) → is_optional e ≡ true → move modal e x ≡ Some r → IsTrue (nat_lt (form x) (bound e))
below-bound modal (some_arguments d) x r o h = some_arguments-below d x r h
below-bound modal (some_equation d) x r o h = equation-below d x r h
below-bound modal (formula_rest d) x r o h = formula_rest-below d x r h
below-bound modal (chain_rest c d) x r o h = chain_rest-below c d x r h
below-bound modal (literals_rest d) x r o h = literals_rest-below d x r h
below-bound modal items x r o h = items-below modal x r h
below-bound modal _ x r o h = absurd (false≢true o)

pub good-step : (modal : Bool) (es : List Expected) (x : Terminal) (r : ℕ × List Expected) → IsGood modal es → step modal es x ≡ Some r → IsGood modal r.1
good-step modal [] x r g h = absurd (none_some h)
good-step modal (e ∷ es) x r g h = by (move modal e x) refl (is_optional e) (λ k. good-step modal es x r g.1 k) h
  where
    by : (m : Option (ℕ × List Expected)) → move modal e x ≡ m → (o : Bool) → (step modal es x ≡ Some r → IsGood modal r.1) → moved m o es (step modal es x) ≡ Some r → IsGood modal r.1
    by (Some q) q_is o next k = subst (λ p. IsGood modal p.1) (some-is k) (good-move modal e x es q g.0 g.1 q_is)
    by None q_is true next k = next k
    by None q_is false next k = absurd (none_some k)

-- what a step leads to, and what is derived behind it
pub record Stepped (modal : Bool) (es : List Expected) (x : Terminal) (ts : List Terminal) (ns : List ℕ) : Type 0 where
  pub now : ℕ × List Expected
  pub others : List ℕ
  pub is_step : step modal es x ≡ Some now
  pub nestings : ns ≡ now.0 ∷ others
  pub derived : Derives modal now.1 ts others

-- tokens that are derived begin with a step
pub derives-step : (modal : Bool) (es : List Expected) (x : Terminal) (ts : List Terminal) (ns : List ℕ) → IsGood modal es → Derives modal es (x ∷ ts) ns → Stepped modal es x ts ns
derives-step modal [] x ts ns g h = elim h [ ]
derives-step modal (e ∷ es) x ts (n ∷ ns) g (takes {new = new} m h) =
    record { now = (n, new ++ es); others = ns; is_step = ap (λ q. moved q (is_optional e) es (step modal es x)) m; nestings = refl; derived = h }
derives-step modal (e ∷ es) x ts ns g (skips o h) = by (derives-step modal es x ts ns g.1 h) (move modal e x) refl
  where
    by : Stepped modal es x ts ns → (m : Option (ℕ × List Expected)) → move modal e x ≡ m → Stepped modal (e ∷ es) x ts ns
    by next None q_is = record {
      now = next.now;
      others = next.others;
      is_step = ap (λ q. moved q (is_optional e) es (step modal es x)) q_is ∙ ap (λ q. moved None q es (step modal es x)) o ∙ next.is_step;
      nestings = next.nestings;
      derived = next.derived;
    }
    by next (Some q) q_is = absurd (none_some (sym (g.0 x (below-bound modal e x q o q_is)) ∙ next.is_step))
