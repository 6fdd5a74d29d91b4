-- What a move leads to, taken back: terms, atoms and formulas.
use Rattle.std.proofs.Common.{◌≡◌, ◌≢◌, ◌==◌, ◌&&◌, ◌||◌, ◌⊎◌, ℕ, suc, Bool, true, false, List, [], ◌∷◌, ◌++◌, Option, Some, inl, inr, ◌↔◌, arith, refl, sym, ◌∙◌, ap, append_assoc, append-nil, subst, IsTrue, if◌then◌else◌}
use Rattle.std.specs.Prelude.{codes}
use Rattle.std.proofs.lemmas.Bool.{and_parts, and_from, eqb-true, false≢true}
use Rattle.std.proofs.lemmas.Bool.Decides.{eqb_tells}
use Rattle.plain_laws.proofs.Lists.{joins}
use Rattle.plain_laws.proofs.Options.{none_some}
use Rattle.calculus.proofs.EqualityLaws.{list_eq-tells}
use Rattle.tptp_reader.specs.declared.source.ChainKind.{ChainKind}
use Rattle.tptp_reader.specs.declared.source.ChainKind.TheVariants.{And, Or}
use Rattle.tptp_reader.specs.declared.source.BinaryKind.{BinaryKind}
use Rattle.tptp_reader.specs.declared.source.BinaryKind.TheVariants.{Imp, If, Iff, Xor, Nor, Nand}
use Rattle.tptp_reader.specs.Terminals.{Terminal, lower, upper, quoted, dollar, hash, open_round, close_round, open_square, close_square, comma, dot, colon, tilde, exclamation, question, ampersand, bar, implies, implied, equivalent, inequivalent, nor, nand, equal, unequal}
use Rattle.tptp_reader.specs.Grammar as g
use Rattle.tptp_reader.specs.Grammar.{Word, plain, in_quotes, TermTree, TermTrees, AtomTree, UnitTree, FormulaTree, UnitTrees, LiteralTree, ClauseTree, NameTree, ItemTree, term_tokens, terms_tokens, atom_tokens, unit_tokens, formula_tokens, units_tokens, variables_tokens, word_token}
use Rattle.tptp_reader.specs.Nesting.{term_nestings, atom_nestings, unit_nestings, formula_nestings}
use Rattle.tptp_reader.specs.Expecting.{Expected, a_square, a_colon, an_upper, form, this, term, arguments, some_arguments, some_equation, equation, atom, variables, unit, formula, formula_rest, chain_rest, stop, before, term_move, arguments_move, some_arguments_move, equation_move, dollar_move, is_truth, atom_move, variables_move, modal_move, is_modality, unit_move, formula_rest_move, chain_rest_move, stop_move, is_word}
use Rattle.tptp_reader.proofs.Deriving.{before-some}
use Rattle.tptp_reader.proofs.Forms.{Arguments, Backs, Completes, Form, Rest, Side, applied, arguments_nestings, arguments_tokens, chained, differs, equals, is_plain_rest, is_side, joined, known, no-more, no_arguments, no_rest, no_side, none, only, paired, part, predicated, rest_nestings, rest_tokens, side_nestings, side_tokens, split, these}

-- ---- terms and atoms

pub applied-tokens : (w : Word) (m : Arguments) → term_tokens (applied w m) ≡ word_token w ∷ arguments_tokens m
applied-tokens w no_arguments = refl
applied-tokens w (these t us) = refl

pub applied-nestings : (d : ℕ) (w : Word) (m : Arguments) → term_nestings d (applied w m) ≡ d ∷ arguments_nestings d m
applied-nestings d w no_arguments = refl
applied-nestings d w (these t us) = refl

pub word-back : (modal : Bool) (d : ℕ) (w : Word) (ts : List Terminal) (ns : List ℕ) → Completes modal (some_arguments d ∷ []) ts ns → Form modal (term d) (word_token w ∷ ts) (d ∷ ns)
word-back modal d w ts ns s = let f = only s in (applied w f.0, ap (λ z. word_token w ∷ z) f.1 ∙ sym (applied-tokens w f.0), ap (λ z. d ∷ z) f.2 ∙ sym (applied-nestings d w f.0))

pub term-back : (modal : Bool) (d : ℕ) → Backs modal (term d) (term_move d)
term-back modal d (upper x) r ts ns e c = known modal (term d) (upper x) ts ns e (λ s. let n = no-more s in (g.variable x, ap (λ z. upper x ∷ z) n.0, ap (λ z. d ∷ z) n.1)) c
term-back modal d (lower w) r ts ns e c = known modal (term d) (lower w) ts ns e (λ s. word-back modal d (plain w) ts ns s) c
term-back modal d (quoted w) r ts ns e c = known modal (term d) (quoted w) ts ns e (λ s. word-back modal d (in_quotes w) ts ns s) c
term-back modal d _ r ts ns e c = absurd (none_some e)

-- a first part and one behind it
pub record Two (modal : Bool) (e f : Expected) (ts : List Terminal) (ns : List ℕ) : Type 0 where
  pub a : List Terminal
  pub b : List Terminal
  pub k : List ℕ
  pub l : List ℕ
  pub first : Form modal e a k
  pub second : Form modal f b l
  pub tokens : ts ≡ a ++ b
  pub nestings : ns ≡ k ++ l

pub two : {modal : Bool} {e f : Expected} {ts : List Terminal} {ns : List ℕ} → Completes modal (e ∷ f ∷ []) ts ns → Two modal e f ts ns
two c = let s = split c in record { a = s.a; b = s.b; k = s.k; l = s.l; first = s.first; second = only s.others; tokens = s.tokens; nestings = s.nestings }

pub arguments-back : (modal : Bool) (d : ℕ) → Backs modal (arguments d) (arguments_move d)
arguments-back modal d comma r ts ns e c =
    known modal (arguments d) comma ts ns e (λ s. let t = two s in (g.more_terms t.first.0 t.second.0, ap (λ z. comma ∷ z) (joins t.tokens t.first.1 t.second.1), ap (λ z. d ∷ z) (joins t.nestings t.first.2 t.second.2))) c
arguments-back modal d close_round r ts ns e c = known modal (arguments d) close_round ts ns e (λ s. let n = no-more s in (g.no_terms, ap (λ z. close_round ∷ z) n.0, ap (λ z. d ∷ z) n.1)) c
arguments-back modal d _ r ts ns e c = absurd (none_some e)

pub some_arguments-back : (modal : Bool) (d : ℕ) → Backs modal (some_arguments d) (some_arguments_move d)
some_arguments-back modal d open_round r ts ns e c =
    known modal (some_arguments d) open_round ts ns e (λ s. let t = two s in (these t.first.0 t.second.0, ap (λ z. open_round ∷ z) (joins t.tokens t.first.1 t.second.1), ap (λ z. d ∷ z) (joins t.nestings t.first.2 t.second.2))) c
some_arguments-back modal d _ r ts ns e c = absurd (none_some e)

pub equation-back : (modal : Bool) (d : ℕ) → Backs modal (equation d) (equation_move d)
equation-back modal d equal r ts ns e c = known modal (equation d) equal ts ns e (λ s. let f = only s in (equals f.0, refl, ap (λ z. equal ∷ z) f.1, ap (λ z. d ∷ z) f.2)) c
equation-back modal d unequal r ts ns e c = known modal (equation d) unequal ts ns e (λ s. let f = only s in (differs f.0, refl, ap (λ z. unequal ∷ z) f.1, ap (λ z. d ∷ z) f.2)) c
equation-back modal d _ r ts ns e c = absurd (none_some e)

pub some_equation-back : (modal : Bool) (d : ℕ) → Backs modal (some_equation d) (equation_move d)
some_equation-back modal d x r ts ns e c = let f = equation-back modal d x r ts ns e c in (f.0, f.2, f.3)

-- an equation from its left side
abbrev pub equated : TermTree → Side → AtomTree
equated s no_side = g.truth
equated s (equals t) = g.equation s t
equated s (differs t) = g.disequation s t

pub equated-tokens : (s : TermTree) (m : Side) → is_side m ≡ true → atom_tokens (equated s m) ≡ term_tokens s ++ side_tokens m
equated-tokens s no_side h = absurd (false≢true h)
equated-tokens s (equals t) h = refl
equated-tokens s (differs t) h = refl

pub equated-nestings : (d : ℕ) (s : TermTree) (m : Side) → is_side m ≡ true → atom_nestings d (equated s m) ≡ term_nestings d s ++ side_nestings d m
equated-nestings d s no_side h = absurd (false≢true h)
equated-nestings d s (equals t) h = refl
equated-nestings d s (differs t) h = refl

-- an atom that begins with a word
abbrev pub atom_by : Word → Arguments → Side → AtomTree
atom_by w m no_side = predicated w m
atom_by w m (equals t) = g.equation (applied w m) t
atom_by w m (differs t) = g.disequation (applied w m) t

pub predicated-tokens : (w : Word) (m : Arguments) → atom_tokens (predicated w m) ≡ word_token w ∷ arguments_tokens m
predicated-tokens w no_arguments = refl
predicated-tokens w (these t us) = refl

pub predicated-nestings : (d : ℕ) (w : Word) (m : Arguments) → atom_nestings d (predicated w m) ≡ d ∷ arguments_nestings d m
predicated-nestings d w no_arguments = refl
predicated-nestings d w (these t us) = refl

pub atom_by-tokens : (w : Word) (m : Arguments) (s : Side) → atom_tokens (atom_by w m s) ≡ word_token w ∷ (arguments_tokens m ++ side_tokens s)
atom_by-tokens w m no_side = predicated-tokens w m ∙ ap (λ z. word_token w ∷ z) (sym (append-nil (arguments_tokens m)))
atom_by-tokens w m (equals t) = ap (λ z. z ++ equal ∷ term_tokens t) (applied-tokens w m)
atom_by-tokens w m (differs t) = ap (λ z. z ++ unequal ∷ term_tokens t) (applied-tokens w m)

pub atom_by-nestings : (d : ℕ) (w : Word) (m : Arguments) (s : Side) → atom_nestings d (atom_by w m s) ≡ d ∷ (arguments_nestings d m ++ side_nestings d s)
atom_by-nestings d w m no_side = predicated-nestings d w m ∙ ap (λ z. d ∷ z) (sym (append-nil (arguments_nestings d m)))
atom_by-nestings d w m (equals t) = ap (λ z. z ++ d ∷ term_nestings d t) (applied-nestings d w m)
atom_by-nestings d w m (differs t) = ap (λ z. z ++ d ∷ term_nestings d t) (applied-nestings d w m)

pub atom-word-back : (modal : Bool) (d : ℕ) (w : Word) (ts : List Terminal) (ns : List ℕ) → Completes modal (some_arguments d ∷ some_equation d ∷ []) ts ns → Form modal (atom d) (word_token w ∷ ts) (d ∷ ns)
atom-word-back modal d w ts ns s =
    let t = two s in (
      atom_by w t.first.0 t.second.0,
      ap (λ z. word_token w ∷ z) (joins t.tokens t.first.1 t.second.1) ∙ sym (atom_by-tokens w t.first.0 t.second.0),
      ap (λ z. d ∷ z) (joins t.nestings t.first.2 t.second.2) ∙ sym (atom_by-nestings d w t.first.0 t.second.0),
    )

pub word-is : (v w : List ℕ) → is_word v w ≡ true → v ≡ w
word-is v w h = (list_eq-tells ◌==◌ numbers v w).0 h
  where
    numbers : (a b : ℕ) → IsTrue (a == b) ↔ (a ≡ b)
    numbers a b = (eqb-true a b, λ e. subst (λ z. IsTrue (a == z)) e (same a))
      where
        same : (a : ℕ) → (a == a) ≡ true
        same a = by (eqb_tells a a)
          where
            by : (((a == a) ≡ true) × (a ≡ a)) ⊎ (((a == a) ≡ false) × (a ≢ a)) → (a == a) ≡ true
            by (inl h) = h.0
            by (inr h) = absurd (h.1 refl)

pub either-word : (b c : Bool) → (if b then true else c) ≡ true → (b ≡ true) ⊎ (c ≡ true)
either-word true c h = inl refl
either-word false c h = inr h

pub fixed-back : (modal : Bool) (d : ℕ) (w : List ℕ) (r : ℕ × List Expected) (ts : List Terminal) (ns : List ℕ) → dollar_move (is_truth w) d ≡ Some r → Completes modal r.1 ts ns → Form modal (atom d) (dollar w ∷ ts) (r.0 ∷ ns)
fixed-back modal d w r ts ns e c = by (is_truth w) refl e
  where
    word : (is_word w (codes "$true") ≡ true) ⊎ (is_word w (codes "$false") ≡ true) → Completes modal [] ts ns → Form modal (atom d) (dollar w ∷ ts) (d ∷ ns)
    word (inl h) s = let n = no-more s in (g.truth, (λ i. dollar (word-is w (codes "$true") h i) ∷ n.0 i), ap (λ z. d ∷ z) n.1)
    word (inr h) s = let n = no-more s in (g.falsity, (λ i. dollar (word-is w (codes "$false") h i) ∷ n.0 i), ap (λ z. d ∷ z) n.1)

    by : (b : Bool) → is_truth w ≡ b → dollar_move b d ≡ Some r → Form modal (atom d) (dollar w ∷ ts) (r.0 ∷ ns)
    by false h q = absurd (none_some q)
    by true h q = known modal (atom d) (dollar w) ts ns q (word (either-word (is_word w (codes "$true")) (is_word w (codes "$false")) h)) c

pub atom-back : (modal : Bool) (d : ℕ) → Backs modal (atom d) (atom_move d)
atom-back modal d (dollar w) r ts ns e c = fixed-back modal d w r ts ns e c
atom-back modal d (upper x) r ts ns e c =
    known modal (atom d) (upper x) ts ns e (λ s. let f = only s in (equated (g.variable x) f.0, ap (λ z. upper x ∷ z) f.2 ∙ sym (equated-tokens (g.variable x) f.0 f.1), ap (λ z. d ∷ z) f.3 ∙ sym (equated-nestings d (g.variable x) f.0 f.1))) c
atom-back modal d (lower w) r ts ns e c = known modal (atom d) (lower w) ts ns e (λ s. atom-word-back modal d (plain w) ts ns s) c
atom-back modal d (quoted w) r ts ns e c = known modal (atom d) (quoted w) ts ns e (λ s. atom-word-back modal d (in_quotes w) ts ns s) c
atom-back modal d _ r ts ns e c = absurd (none_some e)

-- ---- formulas

-- a token of the form of a variable is one
pub variable-is : (x : Terminal) → form x ≡ 21 → (y : List ℕ) × (x ≡ upper y)
variable-is (upper y) h = (y, refl)
variable-is open_round h = absurd (omega (arith, h))
variable-is equal h = absurd (omega (arith, h))
variable-is unequal h = absurd (omega (arith, h))
variable-is ampersand h = absurd (omega (arith, h))
variable-is bar h = absurd (omega (arith, h))
variable-is implies h = absurd (omega (arith, h))
variable-is implied h = absurd (omega (arith, h))
variable-is equivalent h = absurd (omega (arith, h))
variable-is inequivalent h = absurd (omega (arith, h))
variable-is _ h = absurd (omega (arith, h))

pub opening-is : (x : Terminal) → form x ≡ 0 → x ≡ open_round
opening-is open_round h = refl
opening-is _ h = absurd (omega (arith, h))

pub closing-is : (x : Terminal) → form x ≡ 11 → x ≡ close_round
closing-is close_round h = refl
closing-is _ h = absurd (omega (arith, h))

pub square-is : (x : Terminal) → form x ≡ 12 → x ≡ open_square
square-is open_square h = refl
square-is _ h = absurd (omega (arith, h))

pub comma-is : (x : Terminal) → form x ≡ 14 → x ≡ comma
comma-is comma h = refl
comma-is _ h = absurd (omega (arith, h))

pub dot-is : (x : Terminal) → form x ≡ 15 → x ≡ dot
dot-is dot h = refl
dot-is _ h = absurd (omega (arith, h))

pub colon-is : (x : Terminal) → form x ≡ 16 → x ≡ colon
colon-is colon h = refl
colon-is _ h = absurd (omega (arith, h))

pub lower-is : (x : Terminal) → form x ≡ 20 → (w : List ℕ) × (x ≡ lower w)
lower-is (lower w) h = (w, refl)
lower-is _ h = absurd (omega (arith, h))

pub quoted-is : (x : Terminal) → form x ≡ 22 → (w : List ℕ) × (x ≡ quoted w)
quoted-is (quoted w) h = (w, refl)
quoted-is _ h = absurd (omega (arith, h))

-- a list of this one token
pub token-of : {x y : Terminal} {a : List Terminal} → a ≡ x ∷ [] → x ≡ y → a ≡ y ∷ []
token-of e h = e ∙ ap (λ z. z ∷ []) h

pub variables-back : (modal : Bool) (d : ℕ) → Backs modal (variables d) (variables_move d)
variables-back modal d comma r ts ns e c =
    known modal (variables d) comma ts ns e (λ s. let t = two s in let v = variable-is t.first.0 t.first.1 in
    (v.0 ∷ t.second.0, ap (λ z. comma ∷ z) (joins t.tokens (token-of t.first.2 v.1) t.second.1), ap (λ z. d ∷ z) (joins t.nestings t.first.3 t.second.2))) c
variables-back modal d close_square r ts ns e c = known modal (variables d) close_square ts ns e (λ s. let f = only s in ([], ap (λ z. close_square ∷ z) (token-of f.2 (colon-is f.0 f.1)), ap (λ z. d ∷ z) f.3)) c
variables-back modal d _ r ts ns e c = absurd (none_some e)

pub or-true : (b : Bool) → IsTrue (b || true)
or-true true = refl
or-true false = refl

pub quantified-back : (modal : Bool) (d : ℕ) (q : g.Quantifier) (ts : List Terminal) (ns : List ℕ) → Completes modal (this a_square d ∷ this an_upper d ∷ variables d ∷ unit (suc d) ∷ []) ts ns → Form modal (unit d) (g.quantifier_token q ∷ ts) (d ∷ ns)
quantified-back modal d q ts ns c =
    let s = split c in
    let t = split s.others in
    let v = two t.others in
    let x = variable-is t.first.0 t.first.1 in
    let u = v.second in (
      g.quantified q x.0 v.first.0 u.0,
      u.1,
      ap (λ z. g.quantifier_token q ∷ z) (joins s.tokens (token-of s.first.2 (square-is s.first.0 s.first.1)) (joins t.tokens (token-of t.first.2 x.1) (joins v.tokens v.first.1 u.2))),
      ap (λ z. d ∷ z) (joins s.nestings s.first.3 (joins t.nestings t.first.3 (joins v.nestings v.first.2 u.3))),
    )

pub modality-back : (modal : Bool) (d : ℕ) (w : List ℕ) (r : ℕ × List Expected) (ts : List Terminal) (ns : List ℕ) → modal_move (modal && is_modality w) d ≡ Some r → Completes modal r.1 ts ns → Form modal (unit d) (hash w ∷ ts) (r.0 ∷ ns)
modality-back false d w r ts ns e c = absurd (none_some e)
modality-back true d w r ts ns e c = by (is_modality w) refl e
  where
    word : (is_word w (codes "#box") ≡ true) ⊎ (is_word w (codes "#dia") ≡ true) → Completes true (this a_colon d ∷ unit (suc d) ∷ []) ts ns → Form true (unit d) (hash w ∷ ts) (d ∷ ns)
    word (inl h) s = let t = two s in let k : ts ≡ colon ∷ unit_tokens t.second.0 = joins t.tokens (token-of t.first.2 (colon-is t.first.0 t.first.1)) t.second.2 in
        (g.under_modality g.necessity t.second.0, refl, (λ i. hash (word-is w (codes "#box") h i) ∷ k i), ap (λ z. d ∷ z) (joins t.nestings t.first.3 t.second.3))
    word (inr h) s = let t = two s in let k : ts ≡ colon ∷ unit_tokens t.second.0 = joins t.tokens (token-of t.first.2 (colon-is t.first.0 t.first.1)) t.second.2 in
        (g.under_modality g.possibility t.second.0, refl, (λ i. hash (word-is w (codes "#dia") h i) ∷ k i), ap (λ z. d ∷ z) (joins t.nestings t.first.3 t.second.3))

    by : (b : Bool) → is_modality w ≡ b → modal_move b d ≡ Some r → Form true (unit d) (hash w ∷ ts) (r.0 ∷ ns)
    by false h q = absurd (none_some q)
    by true h q = known true (unit d) (hash w) ts ns q (word (either-word (is_word w (codes "#box")) (is_word w (codes "#dia")) h)) c

pub atomic-back : (modal : Bool) (d : ℕ) (x : Terminal) (r : ℕ × List Expected) (ts : List Terminal) (ns : List ℕ) → atom_move d x ≡ Some r → Completes modal r.1 ts ns → Form modal (unit d) (x ∷ ts) (r.0 ∷ ns)
atomic-back modal d x r ts ns e c = let f = atom-back modal d x r ts ns e c in (g.atomic f.0, or-true modal, f.1, f.2)

pub unit-back : (modal : Bool) (d : ℕ) → Backs modal (unit d) (unit_move modal d)
unit-back modal d open_round r ts ns e c =
    known modal (unit d) open_round ts ns e (λ s. let t = two s in
    (g.bracketed t.first.0, t.first.1, ap (λ z. open_round ∷ z) (joins t.tokens t.first.2 (token-of t.second.2 (closing-is t.second.0 t.second.1))), ap (λ z. d ∷ z) (joins t.nestings t.first.3 t.second.3))) c
unit-back modal d tilde r ts ns e c = known modal (unit d) tilde ts ns e (λ s. let f = only s in (g.negation f.0, f.1, ap (λ z. tilde ∷ z) f.2, ap (λ z. d ∷ z) f.3)) c
unit-back modal d exclamation r ts ns e c = known modal (unit d) exclamation ts ns e (λ s. quantified-back modal d g.universal ts ns s) c
unit-back modal d question r ts ns e c = known modal (unit d) question ts ns e (λ s. quantified-back modal d g.existential ts ns s) c
unit-back modal d (hash w) r ts ns e c = modality-back modal d w r ts ns e c
unit-back modal d (dollar w) r ts ns e c = atomic-back modal d (dollar w) r ts ns e c
unit-back modal d (upper w) r ts ns e c = atomic-back modal d (upper w) r ts ns e c
unit-back modal d (lower w) r ts ns e c = atomic-back modal d (lower w) r ts ns e c
unit-back modal d (quoted w) r ts ns e c = atomic-back modal d (quoted w) r ts ns e c
unit-back modal d _ r ts ns e c = absurd (none_some e)

-- a stack of two stacks
pub record Halves (modal : Bool) (es fs : List Expected) (ts : List Terminal) (ns : List ℕ) : Type 0 where
  pub a : List Terminal
  pub b : List Terminal
  pub k : List ℕ
  pub l : List ℕ
  pub first : Completes modal es a k
  pub second : Completes modal fs b l
  pub tokens : ts ≡ a ++ b
  pub nestings : ns ≡ k ++ l

pub halves : {modal : Bool} (es fs : List Expected) {ts : List Terminal} {ns : List ℕ} → Completes modal (es ++ fs) ts ns → Halves modal es fs ts ns
halves [] fs {ts} {ns} c = record { a = []; b = ts; k = []; l = ns; first = none; second = c; tokens = refl; nestings = refl }
halves (e ∷ es) fs c =
    let s = split c in
    let h = halves es fs s.others in
    record {
      a = s.a ++ h.a;
      b = h.b;
      k = s.k ++ h.k;
      l = h.l;
      first = part s.a h.a s.k h.k s.first h.first;
      second = h.second;
      tokens = s.tokens ∙ ap (λ z. s.a ++ z) h.tokens ∙ sym (append_assoc s.a h.a h.b);
      nestings = s.nestings ∙ ap (λ z. s.k ++ z) h.nestings ∙ sym (append_assoc s.k h.k h.l);
    }

-- the part that a move begins, and what follows it
pub record Led (modal : Bool) (e f : Expected) (x : Terminal) (n : ℕ) (ts : List Terminal) (ns : List ℕ) : Type 0 where
  pub a : List Terminal
  pub b : List Terminal
  pub k : List ℕ
  pub l : List ℕ
  pub first : Form modal e (x ∷ a) (n ∷ k)
  pub second : Form modal f b l
  pub tokens : x ∷ ts ≡ (x ∷ a) ++ b
  pub nestings : n ∷ ns ≡ (n ∷ k) ++ l

pub led : (modal : Bool) (e f : Expected) (mv : Terminal → Option (ℕ × List Expected)) → Backs modal e mv → (x : Terminal) (r : ℕ × List Expected) (ts : List Terminal) (ns : List ℕ) → before (f ∷ []) (mv x) ≡ Some r → Completes modal r.1 ts ns → Led modal e f x r.0 ts ns
led modal e f mv back x r ts ns q c =
    let b = before-some (f ∷ []) (mv x) r q in
    let h = halves b.first.1 (f ∷ []) (subst (λ (z : ℕ × List Expected). Completes modal z.1 ts ns) b.joined c) in
    subst (λ (z : ℕ × List Expected). Led modal e f x z.0 ts ns) (sym b.joined) (record {
      a = h.a;
      b = h.b;
      k = h.k;
      l = h.l;
      first = back x b.first h.a h.k b.there h.first;
      second = only h.second;
      tokens = ap (λ z. x ∷ z) h.tokens;
      nestings = ap (λ z. b.first.0 ∷ z) h.nestings;
    })

pub joined-plain : (modal : Bool) (u : UnitTree) (m : Rest) → IsTrue (modal || g.is_plain_unit u) → IsTrue (modal || is_plain_rest m) → IsTrue (modal || g.is_plain (joined u m))
joined-plain true u m p q = refl
joined-plain false u no_rest p q = p
joined-plain false u (chained c v us) p q =
    let h = and_parts (g.is_plain_unit v) (g.are_plain_units us) q in
    and_from (g.is_plain_unit u && g.is_plain_unit v) (g.are_plain_units us) (and_from (g.is_plain_unit u) (g.is_plain_unit v) p h.0) h.1
joined-plain false u (paired c v) p q = and_from (g.is_plain_unit u) (g.is_plain_unit v) p q

pub joined-tokens : (u : UnitTree) (m : Rest) → formula_tokens (joined u m) ≡ unit_tokens u ++ rest_tokens m
joined-tokens u no_rest = sym (append-nil (unit_tokens u))
joined-tokens u (chained c v us) = refl
joined-tokens u (paired c v) = refl

pub joined-nestings : (d : ℕ) (u : UnitTree) (m : Rest) → formula_nestings d (joined u m) ≡ unit_nestings d u ++ rest_nestings d m
joined-nestings d u no_rest = sym (append-nil (unit_nestings d u))
joined-nestings d u (chained c v us) = refl
joined-nestings d u (paired c v) = refl

pub formula-back : (modal : Bool) (d : ℕ) → Backs modal (formula d) (λ x. before (formula_rest d ∷ []) (unit_move modal d x))
formula-back modal d x r ts ns e c =
    let l = led modal (unit d) (formula_rest d) (unit_move modal d) (unit-back modal d) x r ts ns e c in (
      joined l.first.0 l.second.0,
      joined-plain modal l.first.0 l.second.0 l.first.1 l.second.1,
      joins l.tokens l.first.2 l.second.2 ∙ sym (joined-tokens l.first.0 l.second.0),
      joins l.nestings l.first.3 l.second.3 ∙ sym (joined-nestings d l.first.0 l.second.0),
    )

pub both-plain : (modal a b : Bool) → IsTrue (modal || a) → IsTrue (modal || b) → IsTrue (modal || (a && b))
both-plain true a b p q = refl
both-plain false a b p q = and_from a b p q

pub chained-back : (modal : Bool) (c : ChainKind) (d : ℕ) (ts : List Terminal) (ns : List ℕ) → Completes modal (unit d ∷ chain_rest c d ∷ []) ts ns → Form modal (formula_rest d) (g.chain_token c ∷ ts) (d ∷ ns)
chained-back modal c d ts ns s =
    let t = two s in (
      chained c t.first.0 t.second.0,
      both-plain modal (g.is_plain_unit t.first.0) (g.are_plain_units t.second.0) t.first.1 t.second.1,
      ap (λ z. g.chain_token c ∷ z) (joins t.tokens t.first.2 t.second.2),
      ap (λ z. d ∷ z) (joins t.nestings t.first.3 t.second.3),
    )

pub paired-back : (modal : Bool) (c : BinaryKind) (d : ℕ) (ts : List Terminal) (ns : List ℕ) → Completes modal (unit d ∷ []) ts ns → Form modal (formula_rest d) (g.binary_token c ∷ ts) (d ∷ ns)
paired-back modal c d ts ns s = let f = only s in (paired c f.0, f.1, ap (λ z. g.binary_token c ∷ z) f.2, ap (λ z. d ∷ z) f.3)

pub formula_rest-back : (modal : Bool) (d : ℕ) → Backs modal (formula_rest d) (formula_rest_move d)
formula_rest-back modal d ampersand r ts ns e c = known modal (formula_rest d) ampersand ts ns e (λ s. chained-back modal And d ts ns s) c
formula_rest-back modal d bar r ts ns e c = known modal (formula_rest d) bar ts ns e (λ s. chained-back modal Or d ts ns s) c
formula_rest-back modal d implies r ts ns e c = known modal (formula_rest d) implies ts ns e (λ s. paired-back modal Imp d ts ns s) c
formula_rest-back modal d implied r ts ns e c = known modal (formula_rest d) implied ts ns e (λ s. paired-back modal If d ts ns s) c
formula_rest-back modal d equivalent r ts ns e c = known modal (formula_rest d) equivalent ts ns e (λ s. paired-back modal Iff d ts ns s) c
formula_rest-back modal d inequivalent r ts ns e c = known modal (formula_rest d) inequivalent ts ns e (λ s. paired-back modal Xor d ts ns s) c
formula_rest-back modal d nor r ts ns e c = known modal (formula_rest d) nor ts ns e (λ s. paired-back modal Nor d ts ns s) c
formula_rest-back modal d nand r ts ns e c = known modal (formula_rest d) nand ts ns e (λ s. paired-back modal Nand d ts ns s) c
formula_rest-back modal d _ r ts ns e c = absurd (none_some e)

pub more-back : (modal : Bool) (c : ChainKind) (d : ℕ) (ts : List Terminal) (ns : List ℕ) → Completes modal (unit d ∷ chain_rest c d ∷ []) ts ns → Form modal (chain_rest c d) (g.chain_token c ∷ ts) (d ∷ ns)
more-back modal c d ts ns s =
    let t = two s in (
      g.more_units t.first.0 t.second.0,
      both-plain modal (g.is_plain_unit t.first.0) (g.are_plain_units t.second.0) t.first.1 t.second.1,
      ap (λ z. g.chain_token c ∷ z) (joins t.tokens t.first.2 t.second.2),
      ap (λ z. d ∷ z) (joins t.nestings t.first.3 t.second.3),
    )

pub chain_rest-back : (modal : Bool) (k : ChainKind) (d : ℕ) → Backs modal (chain_rest k d) (chain_rest_move k d)
chain_rest-back modal And d ampersand r ts ns e c = known modal (chain_rest And d) ampersand ts ns e (λ s. more-back modal And d ts ns s) c
chain_rest-back modal Or d bar r ts ns e c = known modal (chain_rest Or d) bar ts ns e (λ s. more-back modal Or d ts ns s) c
chain_rest-back modal And d _ r ts ns e c = absurd (none_some e)
chain_rest-back modal Or d _ r ts ns e c = absurd (none_some e)

pub stop-back : (modal : Bool) → Backs modal stop stop_move
stop-back modal comma r ts ns e c = known modal stop comma ts ns e (λ s. let n = no-more s in (comma, refl, ap (λ z. comma ∷ z) n.0, ap (λ z. 0 ∷ z) n.1)) c
stop-back modal close_round r ts ns e c = known modal stop close_round ts ns e (λ s. let n = no-more s in (close_round, refl, ap (λ z. close_round ∷ z) n.0, ap (λ z. 0 ∷ z) n.1)) c
stop-back modal _ r ts ns e c = absurd (none_some e)
