-- Tokens have at most one tree.
use Rattle.std.proofs.Common.{◌≡◌, ◌≤◌, ℕ, Bool, true, false, List, [], ◌∷◌, ◌++◌, refl, sym, ◌∙◌, ap, append_assoc, append-nil, subst, arith}
use Rattle.std.specs.Prelude.{codes, nat_lt}
use Rattle.std.proofs.lemmas.Bool.{false≢true, lt-ltb, ltb-true}
use Rattle.tptp_reader.specs.declared.source.ChainKind.{ChainKind}
use Rattle.tptp_reader.specs.declared.source.ChainKind.TheVariants.{And, Or}
use Rattle.tptp_reader.specs.declared.source.BinaryKind.{BinaryKind}
use Rattle.tptp_reader.specs.declared.source.BinaryKind.TheVariants.{Imp, If, Iff, Xor, Nor, Nand}
use Rattle.tptp_reader.specs.Terminals.{Terminal, lower, upper, quoted, dollar, hash, open_round, close_round, comma, tilde, exclamation, question, implies, implied, equivalent, inequivalent, nor, equal, unequal}
use Rattle.tptp_reader.specs.Grammar as g
use Rattle.tptp_reader.specs.Grammar.{Word, plain, in_quotes, TermTree, TermTrees, AtomTree, UnitTree, FormulaTree, UnitTrees, term_tokens, terms_tokens, atom_tokens, unit_tokens, formula_tokens, units_tokens, variables_tokens, word_token, chain_token, binary_token, quantifier_token, modality_token}
use Rattle.tptp_reader.specs.Expecting.{form, is_word}

-- ---- what stands at the front

abbrev pub head_or : {A : Type 0} → A → List A → A
head_or d [] = d
head_or d (x ∷ xs) = x

abbrev pub tail_of : {A : Type 0} → List A → List A
tail_of [] = []
tail_of (x ∷ xs) = xs

-- the tokens do not begin with one of a form below k
abbrev pub Stops : ℕ → List Terminal → Type 0
Stops k [] = Unit {0}
Stops k (x ∷ xs) = nat_lt (form x) k ≡ false

less-false : (a j k : ℕ) → j ≤ k → nat_lt a k ≡ false → nat_lt a j ≡ false
less-false a j k n h = by (nat_lt a j) refl
  where
    by : (b : Bool) → nat_lt a j ≡ b → nat_lt a j ≡ false
    by false e = e
    by true e = let l = ltb-true a j e in absurd (false≢true (sym h ∙ lt-ltb a k (omega arith)))

pub stops-less : (j k : ℕ) (ts : List Terminal) → j ≤ k → Stops k ts → Stops j ts
stops-less j k [] n h = tt
stops-less j k (x ∷ xs) n h = less-false (form x) j k n h

-- tokens that begin with one of a form below k do not stop there
pub no-stop : (k : ℕ) (x : Terminal) (ts us : List Terminal) → ts ≡ x ∷ us → Stops k ts → nat_lt (form x) k ≡ true → ⊥
no-stop k x ts us e h l = false≢true (sym (subst (Stops k) e h) ∙ l)

pub word-alike : (v w : Word) → word_token v ≡ word_token w → v ≡ w
word-alike (plain v) (plain w) e = cc
word-alike (plain v) (in_quotes w) e = cc
word-alike (in_quotes v) (plain w) e = cc
word-alike (in_quotes v) (in_quotes w) e = cc

not-upper : (x : List ℕ) (w : Word) → upper x ≡ word_token w → ⊥
not-upper x (plain w) e = cc
not-upper x (in_quotes w) e = cc

-- ---- terms

terms-stop : (us : TermTrees) (a : List Terminal) → Stops 11 (terms_tokens us ++ a)
terms-stop g.no_terms a = refl
terms-stop (g.more_terms t us) a = refl

pub moved-over : {A : Type 0} (a b c d e f : List A) → (a ++ b) ++ c ≡ (d ++ e) ++ f → a ++ (b ++ c) ≡ d ++ (e ++ f)
moved-over a b c d e f h = sym (append_assoc a b c) ∙ h ∙ append_assoc d e f

mutual
  pub term-alike : (s t : TermTree) (a b : List Terminal) → Stops 1 a → Stops 1 b → term_tokens s ++ a ≡ term_tokens t ++ b → (s ≡ t) × (a ≡ b)
  term-alike (g.variable x) (g.variable y) a b p q e = (cc, ap tail_of e)
  term-alike (g.variable x) (g.constant w) a b p q e = absurd (not-upper x w (ap (head_or (upper x)) e))
  term-alike (g.variable x) (g.application w t us) a b p q e = absurd (not-upper x w (ap (head_or (upper x)) e))
  term-alike (g.constant v) (g.variable x) a b p q e = absurd (not-upper x v (sym (ap (head_or (upper x)) e)))
  term-alike (g.constant v) (g.constant w) a b p q e = (ap g.constant (word-alike v w (ap (head_or (word_token v)) e)), ap tail_of e)
  term-alike (g.constant v) (g.application w t us) a b p q e = absurd (no-stop 1 open_round a ((term_tokens t ++ terms_tokens us) ++ b) (ap tail_of e) p refl)
  term-alike (g.application v s us) (g.variable x) a b p q e = absurd (not-upper x v (sym (ap (head_or (upper x)) e)))
  term-alike (g.application v s us) (g.constant w) a b p q e = absurd (no-stop 1 open_round b ((term_tokens s ++ terms_tokens us) ++ a) (sym (ap tail_of e)) q refl)
  term-alike (g.application v s us) (g.application w t vs) a b p q e =
      let d : v ≡ w = word-alike v w (ap (head_or (word_token v)) e) in
      let h : term_tokens s ++ (terms_tokens us ++ a) ≡ term_tokens t ++ (terms_tokens vs ++ b) = moved-over (term_tokens s) (terms_tokens us) a (term_tokens t) (terms_tokens vs) b (ap tail_of (ap tail_of e)) in
      let f = term-alike s t (terms_tokens us ++ a) (terms_tokens vs ++ b) (stops-less 1 11 (terms_tokens us ++ a) (omega arith) (terms-stop us a)) (stops-less 1 11 (terms_tokens vs ++ b) (omega arith) (terms-stop vs b)) h in
      let k = terms-alike us vs a b p q f.1 in
      (λ i. g.application (d i) (f.0 i) (k.0 i), k.1)

  pub terms-alike : (us vs : TermTrees) (a b : List Terminal) → Stops 1 a → Stops 1 b → terms_tokens us ++ a ≡ terms_tokens vs ++ b → (us ≡ vs) × (a ≡ b)
  terms-alike g.no_terms g.no_terms a b p q e = (refl, ap tail_of e)
  terms-alike g.no_terms (g.more_terms t vs) a b p q e = cc
  terms-alike (g.more_terms s us) g.no_terms a b p q e = cc
  terms-alike (g.more_terms s us) (g.more_terms t vs) a b p q e =
      let h : term_tokens s ++ (terms_tokens us ++ a) ≡ term_tokens t ++ (terms_tokens vs ++ b) = moved-over (term_tokens s) (terms_tokens us) a (term_tokens t) (terms_tokens vs) b (ap tail_of e) in
      let f = term-alike s t (terms_tokens us ++ a) (terms_tokens vs ++ b) (stops-less 1 11 (terms_tokens us ++ a) (omega arith) (terms-stop us a)) (stops-less 1 11 (terms_tokens vs ++ b) (omega arith) (terms-stop vs b)) h in
      let k = terms-alike us vs a b p q f.1 in
      (λ i. g.more_terms (f.0 i) (k.0 i), k.1)

-- ---- atoms

-- what stands behind an atom's first term
data Tail : Type 0 where
  alone : Tail
  same other : TermTree → Tail

-- an atom is `$true`, `$false`, or a term and what stands behind it
data View : Type 0 where
  fixed : Bool → View
  with_term : TermTree → Tail → View

abbrev view : AtomTree → View
view g.truth = fixed true
view g.falsity = fixed false
view (g.proposition w) = with_term (g.constant w) alone
view (g.predication w t us) = with_term (g.application w t us) alone
view (g.equation s t) = with_term s (same t)
view (g.disequation s t) = with_term s (other t)

view-alike : (a b : AtomTree) → view a ≡ view b → a ≡ b
view-alike g.truth g.truth e = refl
view-alike g.truth _ e = cc
view-alike g.falsity g.falsity e = refl
view-alike g.falsity _ e = cc
view-alike (g.proposition v) (g.proposition w) e = cc
view-alike (g.proposition v) _ e = cc
view-alike (g.predication v t us) (g.predication w s vs) e = cc
view-alike (g.predication v t us) _ e = cc
view-alike (g.equation s t) (g.equation u v) e = cc
view-alike (g.equation s t) _ e = cc
view-alike (g.disequation s t) (g.disequation u v) e = cc
view-alike (g.disequation s t) _ e = cc

abbrev tail_tokens : Tail → List Terminal
tail_tokens alone = []
tail_tokens (same t) = equal ∷ term_tokens t
tail_tokens (other t) = unequal ∷ term_tokens t

abbrev fixed_word : Bool → Terminal
fixed_word true = dollar (codes "$true")
fixed_word false = dollar (codes "$false")

abbrev view_tokens : View → List Terminal
view_tokens (fixed b) = fixed_word b ∷ []
view_tokens (with_term s m) = term_tokens s ++ tail_tokens m

view-tokens : (a : AtomTree) → atom_tokens a ≡ view_tokens (view a)
view-tokens g.truth = refl
view-tokens g.falsity = refl
view-tokens (g.proposition w) = refl
view-tokens (g.predication w t us) = sym (append-nil (term_tokens (g.application w t us)))
view-tokens (g.equation s t) = refl
view-tokens (g.disequation s t) = refl

abbrev is_fixed_true : Terminal → Bool
is_fixed_true (dollar w) = is_word w (codes "$true")
is_fixed_true _ = false

fixed-alike : (b c : Bool) → fixed_word b ≡ fixed_word c → b ≡ c
fixed-alike true true e = refl
fixed-alike true false e = absurd (false≢true (sym (ap is_fixed_true e)))
fixed-alike false true e = absurd (false≢true (ap is_fixed_true e))
fixed-alike false false e = refl

no-fixed : (b : Bool) (s : TermTree) (m a : List Terminal) → fixed_word b ∷ a ≡ term_tokens s ++ m → ⊥
no-fixed true (g.variable x) m a e = cc
no-fixed true (g.constant (plain w)) m a e = cc
no-fixed true (g.constant (in_quotes w)) m a e = cc
no-fixed true (g.application (plain w) t us) m a e = cc
no-fixed true (g.application (in_quotes w) t us) m a e = cc
no-fixed false (g.variable x) m a e = cc
no-fixed false (g.constant (plain w)) m a e = cc
no-fixed false (g.constant (in_quotes w)) m a e = cc
no-fixed false (g.application (plain w) t us) m a e = cc
no-fixed false (g.application (in_quotes w) t us) m a e = cc

tail-stops : (m : Tail) (a : List Terminal) → Stops 3 a → Stops 1 (tail_tokens m ++ a)
tail-stops alone a p = stops-less 1 3 a (omega arith) p
tail-stops (same t) a p = refl
tail-stops (other t) a p = refl

tail-alike : (m n : Tail) (a b : List Terminal) → Stops 3 a → Stops 3 b → tail_tokens m ++ a ≡ tail_tokens n ++ b → (m ≡ n) × (a ≡ b)
tail-alike alone alone a b p q e = (refl, e)
tail-alike alone (same t) a b p q e = absurd (no-stop 3 equal a (term_tokens t ++ b) e p refl)
tail-alike alone (other t) a b p q e = absurd (no-stop 3 unequal a (term_tokens t ++ b) e p refl)
tail-alike (same s) alone a b p q e = absurd (no-stop 3 equal b (term_tokens s ++ a) (sym e) q refl)
tail-alike (other s) alone a b p q e = absurd (no-stop 3 unequal b (term_tokens s ++ a) (sym e) q refl)
tail-alike (same s) (same t) a b p q e = let f = term-alike s t a b (stops-less 1 3 a (omega arith) p) (stops-less 1 3 b (omega arith) q) (ap tail_of e) in (ap same f.0, f.1)
tail-alike (other s) (other t) a b p q e = let f = term-alike s t a b (stops-less 1 3 a (omega arith) p) (stops-less 1 3 b (omega arith) q) (ap tail_of e) in (ap other f.0, f.1)
tail-alike (same s) (other t) a b p q e = cc
tail-alike (other s) (same t) a b p q e = cc

views-alike : (u v : View) (a b : List Terminal) → Stops 3 a → Stops 3 b → view_tokens u ++ a ≡ view_tokens v ++ b → (u ≡ v) × (a ≡ b)
views-alike (fixed c) (fixed d) a b p q e = (ap fixed (fixed-alike c d (ap (head_or (fixed_word c)) e)), ap tail_of e)
views-alike (fixed c) (with_term s m) a b p q e = absurd (no-fixed c s (tail_tokens m ++ b) a (e ∙ append_assoc (term_tokens s) (tail_tokens m) b))
views-alike (with_term s m) (fixed c) a b p q e = absurd (no-fixed c s (tail_tokens m ++ a) b (sym e ∙ append_assoc (term_tokens s) (tail_tokens m) a))
views-alike (with_term s m) (with_term t n) a b p q e =
    let f = term-alike s t (tail_tokens m ++ a) (tail_tokens n ++ b) (tail-stops m a p) (tail-stops n b q) (moved-over (term_tokens s) (tail_tokens m) a (term_tokens t) (tail_tokens n) b e) in
    let k = tail-alike m n a b p q f.1 in
    (λ i. with_term (f.0 i) (k.0 i), k.1)

pub atom-alike : (u v : AtomTree) (a b : List Terminal) → Stops 3 a → Stops 3 b → atom_tokens u ++ a ≡ atom_tokens v ++ b → (u ≡ v) × (a ≡ b)
atom-alike u v a b p q e =
    let f = views-alike (view u) (view v) a b p q (ap (λ t. t ++ a) (sym (view-tokens u)) ∙ e ∙ ap (λ t. t ++ b) (view-tokens v)) in
    (view-alike u v f.0, f.1)

-- ---- units

-- which alternative of a unit the first token begins
abbrev pub beginning : Terminal → ℕ
beginning open_round = 1
beginning tilde = 2
beginning exclamation = 3
beginning question = 3
beginning (hash w) = 4
beginning (lower w) = 5
beginning (upper w) = 5
beginning (quoted w) = 5
beginning (dollar w) = 5
beginning _ = 0

abbrev pub begun : List Terminal → ℕ
begun [] = 0
begun (x ∷ xs) = beginning x

pub term-begins : (t : TermTree) (a : List Terminal) → begun (term_tokens t ++ a) ≡ 5
term-begins (g.variable x) a = refl
term-begins (g.constant (plain w)) a = refl
term-begins (g.constant (in_quotes w)) a = refl
term-begins (g.application (plain w) t us) a = refl
term-begins (g.application (in_quotes w) t us) a = refl

pub atom-begins : (t : AtomTree) (a : List Terminal) → begun (atom_tokens t ++ a) ≡ 5
atom-begins g.truth a = refl
atom-begins g.falsity a = refl
atom-begins (g.proposition (plain w)) a = refl
atom-begins (g.proposition (in_quotes w)) a = refl
atom-begins (g.predication (plain w) t us) a = refl
atom-begins (g.predication (in_quotes w) t us) a = refl
atom-begins (g.equation s t) a = ap begun (append_assoc (term_tokens s) (equal ∷ term_tokens t) a) ∙ term-begins s (equal ∷ (term_tokens t ++ a))
atom-begins (g.disequation s t) a = ap begun (append_assoc (term_tokens s) (unequal ∷ term_tokens t) a) ∙ term-begins s (unequal ∷ (term_tokens t ++ a))

abbrev unit_beginning : UnitTree → ℕ
unit_beginning (g.bracketed f) = 1
unit_beginning (g.negation u) = 2
unit_beginning (g.quantified q x xs u) = 3
unit_beginning (g.under_modality m u) = 4
unit_beginning (g.atomic a) = 5

unit-begins : (u : UnitTree) (a : List Terminal) → begun (unit_tokens u ++ a) ≡ unit_beginning u
unit-begins (g.bracketed f) a = refl
unit-begins (g.negation u) a = refl
unit-begins (g.quantified g.universal x xs u) a = refl
unit-begins (g.quantified g.existential x xs u) a = refl
unit-begins (g.under_modality g.necessity u) a = refl
unit-begins (g.under_modality g.possibility u) a = refl
unit-begins (g.atomic t) a = atom-begins t a

same-beginning : (u v : UnitTree) (a b : List Terminal) → unit_tokens u ++ a ≡ unit_tokens v ++ b → unit_beginning u ≡ unit_beginning v
same-beginning u v a b e = sym (unit-begins u a) ∙ ap begun e ∙ unit-begins v b

quantifier-alike : (q r : g.Quantifier) → quantifier_token q ≡ quantifier_token r → q ≡ r
quantifier-alike g.universal g.universal e = refl
quantifier-alike g.universal g.existential e = cc
quantifier-alike g.existential g.universal e = cc
quantifier-alike g.existential g.existential e = refl

abbrev is_box : Terminal → Bool
is_box (hash w) = is_word w (codes "#box")
is_box _ = false

modality-alike : (q r : g.Modality) → modality_token q ≡ modality_token r → q ≡ r
modality-alike g.necessity g.necessity e = refl
modality-alike g.necessity g.possibility e = absurd (false≢true (sym (ap is_box e)))
modality-alike g.possibility g.necessity e = absurd (false≢true (ap is_box e))
modality-alike g.possibility g.possibility e = refl

abbrev name_at : Terminal → List ℕ
name_at (upper x) = x
name_at _ = []

variables-alike : (xs ys : List (List ℕ)) (a b : List Terminal) → variables_tokens xs ++ a ≡ variables_tokens ys ++ b → (xs ≡ ys) × (a ≡ b)
variables-alike [] [] a b e = (refl, ap tail_of (ap tail_of e))
variables-alike [] (y ∷ ys) a b e = cc
variables-alike (x ∷ xs) [] a b e = cc
variables-alike (x ∷ xs) (y ∷ ys) a b e =
    let h : x ≡ y = ap (λ t. name_at (head_or comma (tail_of t))) e in
    let f = variables-alike xs ys a b (ap tail_of (ap tail_of e)) in
    (λ i. h i ∷ f.0 i, f.1)

chain-alike : (c d : ChainKind) → chain_token c ≡ chain_token d → c ≡ d
chain-alike And And e = refl
chain-alike And Or e = cc
chain-alike Or And e = cc
chain-alike Or Or e = refl

abbrev binary_of : Terminal → BinaryKind
binary_of implies = Imp
binary_of implied = If
binary_of equivalent = Iff
binary_of inequivalent = Xor
binary_of nor = Nor
binary_of _ = Nand

binary-back : (c : BinaryKind) → binary_of (binary_token c) ≡ c
binary-back Imp = refl
binary-back If = refl
binary-back Iff = refl
binary-back Xor = refl
binary-back Nor = refl
binary-back Nand = refl

binary-alike : (c d : BinaryKind) → binary_token c ≡ binary_token d → c ≡ d
binary-alike c d e = sym (binary-back c) ∙ ap binary_of e ∙ binary-back d

chain-below : (c : ChainKind) (k : ℕ) → nat_lt (form (chain_token c)) 5 ≡ true
chain-below And k = refl
chain-below Or k = refl

chain-in : (c : ChainKind) → nat_lt (form (chain_token c)) 11 ≡ true
chain-in And = refl
chain-in Or = refl

chain-out : (c : ChainKind) → nat_lt (form (chain_token c)) 3 ≡ false
chain-out And = refl
chain-out Or = refl

binary-in : (c : BinaryKind) → nat_lt (form (binary_token c)) 11 ≡ true
binary-in Imp = refl
binary-in If = refl
binary-in Iff = refl
binary-in Xor = refl
binary-in Nor = refl
binary-in Nand = refl

binary-out : (c : BinaryKind) → nat_lt (form (binary_token c)) 5 ≡ false
binary-out Imp = refl
binary-out If = refl
binary-out Iff = refl
binary-out Xor = refl
binary-out Nor = refl
binary-out Nand = refl

chain-no-binary : (c : ChainKind) (d : BinaryKind) → chain_token c ≡ binary_token d → ⊥
chain-no-binary c d e = false≢true (sym (binary-out d) ∙ ap (λ x. nat_lt (form x) 5) (sym e) ∙ chain-below c 0)

units-stop : (c : ChainKind) (us : UnitTrees) (a : List Terminal) → Stops 3 a → Stops 3 (units_tokens c us ++ a)
units-stop c g.no_units a p = p
units-stop c (g.more_units u us) a p = chain-out c

mutual
  pub unit-alike : (u v : UnitTree) (a b : List Terminal) → Stops 3 a → Stops 3 b → unit_tokens u ++ a ≡ unit_tokens v ++ b → (u ≡ v) × (a ≡ b)
  unit-alike (g.bracketed f) (g.bracketed h) a b p q e =
      let k = formula-alike f h (close_round ∷ a) (close_round ∷ b) refl refl (moved-over (formula_tokens f) (close_round ∷ []) a (formula_tokens h) (close_round ∷ []) b (ap tail_of e)) in
      (ap g.bracketed k.0, ap tail_of k.1)
  unit-alike (g.bracketed f) v a b p q e = let n : 1 ≡ unit_beginning v = same-beginning (g.bracketed f) v a b e in absurd (omega (arith, n))
  unit-alike (g.negation u) (g.negation v) a b p q e = let k = unit-alike u v a b p q (ap tail_of e) in (ap g.negation k.0, k.1)
  unit-alike (g.negation u) v a b p q e = let n : 2 ≡ unit_beginning v = same-beginning (g.negation u) v a b e in absurd (omega (arith, n))
  unit-alike (g.quantified r x xs u) (g.quantified s y ys v) a b p q e =
      let c : r ≡ s = quantifier-alike r s (ap (head_or (quantifier_token r)) e) in
      let d : x ≡ y = ap (λ t. name_at (head_or comma (tail_of (tail_of t)))) e in
      let k = variables-alike xs ys (unit_tokens u ++ a) (unit_tokens v ++ b) (moved-over (variables_tokens xs) (unit_tokens u) a (variables_tokens ys) (unit_tokens v) b (ap tail_of (ap tail_of (ap tail_of e)))) in
      let l = unit-alike u v a b p q k.1 in
      (λ i. g.quantified (c i) (d i) (k.0 i) (l.0 i), l.1)
  unit-alike (g.quantified r x xs u) v a b p q e = let n : 3 ≡ unit_beginning v = same-beginning (g.quantified r x xs u) v a b e in absurd (omega (arith, n))
  unit-alike (g.under_modality m u) (g.under_modality n v) a b p q e =
      let c : m ≡ n = modality-alike m n (ap (head_or (modality_token m)) e) in
      let l = unit-alike u v a b p q (ap tail_of (ap tail_of e)) in
      (λ i. g.under_modality (c i) (l.0 i), l.1)
  unit-alike (g.under_modality m u) v a b p q e = let n : 4 ≡ unit_beginning v = same-beginning (g.under_modality m u) v a b e in absurd (omega (arith, n))
  unit-alike (g.atomic t) (g.atomic s) a b p q e = let k = atom-alike t s a b p q e in (ap g.atomic k.0, k.1)
  unit-alike (g.atomic t) v a b p q e = let n : 5 ≡ unit_beginning v = same-beginning (g.atomic t) v a b e in absurd (omega (arith, n))

  pub formula-alike : (f h : FormulaTree) (a b : List Terminal) → Stops 11 a → Stops 11 b → formula_tokens f ++ a ≡ formula_tokens h ++ b → (f ≡ h) × (a ≡ b)
  formula-alike (g.single u) (g.single v) a b p q e =
      let k = unit-alike u v a b (stops-less 3 11 a (omega arith) p) (stops-less 3 11 b (omega arith) q) e in (ap g.single k.0, k.1)
  formula-alike (g.single u) (g.chain c v w us) a b p q e =
      let k = unit-alike u v a (chain_token c ∷ ((unit_tokens w ++ units_tokens c us) ++ b)) (stops-less 3 11 a (omega arith) p) (chain-out c) (e ∙ append_assoc (unit_tokens v) (chain_token c ∷ (unit_tokens w ++ units_tokens c us)) b) in
      absurd (no-stop 11 (chain_token c) a ((unit_tokens w ++ units_tokens c us) ++ b) k.1 p (chain-in c))
  formula-alike (g.single u) (g.binary c v w) a b p q e =
      let k = unit-alike u v a (binary_token c ∷ (unit_tokens w ++ b)) (stops-less 3 11 a (omega arith) p) (less-false (form (binary_token c)) 3 5 (omega arith) (binary-out c)) (e ∙ append_assoc (unit_tokens v) (binary_token c ∷ unit_tokens w) b) in
      absurd (no-stop 11 (binary_token c) a (unit_tokens w ++ b) k.1 p (binary-in c))
  formula-alike (g.chain c u v us) (g.single w) a b p q e =
      let k = unit-alike u w (chain_token c ∷ ((unit_tokens v ++ units_tokens c us) ++ a)) b (chain-out c) (stops-less 3 11 b (omega arith) q) (sym (append_assoc (unit_tokens u) (chain_token c ∷ (unit_tokens v ++ units_tokens c us)) a) ∙ e) in
      absurd (no-stop 11 (chain_token c) b ((unit_tokens v ++ units_tokens c us) ++ a) (sym k.1) q (chain-in c))
  formula-alike (g.chain c u v us) (g.chain d w x ws) a b p q e =
      let k = unit-alike u w (chain_token c ∷ ((unit_tokens v ++ units_tokens c us) ++ a)) (chain_token d ∷ ((unit_tokens x ++ units_tokens d ws) ++ b)) (chain-out c) (chain-out d)
      (moved-over (unit_tokens u) (chain_token c ∷ (unit_tokens v ++ units_tokens c us)) a (unit_tokens w) (chain_token d ∷ (unit_tokens x ++ units_tokens d ws)) b e) in
      let r : c ≡ d = chain-alike c d (ap (head_or (chain_token c)) k.1) in
      let l = unit-alike v x (units_tokens c us ++ a) (units_tokens d ws ++ b) (units-stop c us a (stops-less 3 11 a (omega arith) p)) (units-stop d ws b (stops-less 3 11 b (omega arith) q))
      (moved-over (unit_tokens v) (units_tokens c us) a (unit_tokens x) (units_tokens d ws) b (ap tail_of k.1)) in
      let m = units-alike us ws c a b p q (l.1 ∙ ap (λ z. units_tokens z ws ++ b) (sym r)) in
      (λ i. g.chain (r i) (k.0 i) (l.0 i) (m.0 i), m.1)
  formula-alike (g.chain c u v us) (g.binary d w x) a b p q e =
      let k = unit-alike u w (chain_token c ∷ ((unit_tokens v ++ units_tokens c us) ++ a)) (binary_token d ∷ (unit_tokens x ++ b)) (chain-out c) (less-false (form (binary_token d)) 3 5 (omega arith) (binary-out d))
      (moved-over (unit_tokens u) (chain_token c ∷ (unit_tokens v ++ units_tokens c us)) a (unit_tokens w) (binary_token d ∷ unit_tokens x) b e) in
      absurd (chain-no-binary c d (ap (head_or (chain_token c)) k.1))
  formula-alike (g.binary c u v) (g.single w) a b p q e =
      let k = unit-alike u w (binary_token c ∷ (unit_tokens v ++ a)) b (less-false (form (binary_token c)) 3 5 (omega arith) (binary-out c)) (stops-less 3 11 b (omega arith) q) (sym (append_assoc (unit_tokens u) (binary_token c ∷ unit_tokens v) a) ∙ e) in
      absurd (no-stop 11 (binary_token c) b (unit_tokens v ++ a) (sym k.1) q (binary-in c))
  formula-alike (g.binary c u v) (g.chain d w x ws) a b p q e =
      let k = unit-alike u w (binary_token c ∷ (unit_tokens v ++ a)) (chain_token d ∷ ((unit_tokens x ++ units_tokens d ws) ++ b)) (less-false (form (binary_token c)) 3 5 (omega arith) (binary-out c)) (chain-out d)
      (moved-over (unit_tokens u) (binary_token c ∷ unit_tokens v) a (unit_tokens w) (chain_token d ∷ (unit_tokens x ++ units_tokens d ws)) b e) in
      absurd (chain-no-binary d c (sym (ap (head_or (binary_token c)) k.1)))
  formula-alike (g.binary c u v) (g.binary d w x) a b p q e =
      let k = unit-alike u w (binary_token c ∷ (unit_tokens v ++ a)) (binary_token d ∷ (unit_tokens x ++ b)) (less-false (form (binary_token c)) 3 5 (omega arith) (binary-out c)) (less-false (form (binary_token d)) 3 5 (omega arith) (binary-out d))
      (moved-over (unit_tokens u) (binary_token c ∷ unit_tokens v) a (unit_tokens w) (binary_token d ∷ unit_tokens x) b e) in
      let r : c ≡ d = binary-alike c d (ap (head_or (binary_token c)) k.1) in
      let l = unit-alike v x a b (stops-less 3 11 a (omega arith) p) (stops-less 3 11 b (omega arith) q) (ap tail_of k.1) in
      (λ i. g.binary (r i) (k.0 i) (l.0 i), l.1)

  pub units-alike : (us ws : UnitTrees) (c : ChainKind) (a b : List Terminal) → Stops 11 a → Stops 11 b → units_tokens c us ++ a ≡ units_tokens c ws ++ b → (us ≡ ws) × (a ≡ b)
  units-alike g.no_units g.no_units c a b p q e = (refl, e)
  units-alike g.no_units (g.more_units w ws) c a b p q e = absurd (no-stop 11 (chain_token c) a ((unit_tokens w ++ units_tokens c ws) ++ b) e p (chain-in c))
  units-alike (g.more_units u us) g.no_units c a b p q e = absurd (no-stop 11 (chain_token c) b ((unit_tokens u ++ units_tokens c us) ++ a) (sym e) q (chain-in c))
  units-alike (g.more_units u us) (g.more_units w ws) c a b p q e =
      let k = unit-alike u w (units_tokens c us ++ a) (units_tokens c ws ++ b) (units-stop c us a (stops-less 3 11 a (omega arith) p)) (units-stop c ws b (stops-less 3 11 b (omega arith) q))
      (moved-over (unit_tokens u) (units_tokens c us) a (unit_tokens w) (units_tokens c ws) b (ap tail_of e)) in
      let m = units-alike us ws c a b p q k.1 in
      (λ i. g.more_units (k.0 i) (m.0 i), m.1)

-- A list of tokens is written by at most one formula.
pub one-tree : (f h : FormulaTree) → formula_tokens f ≡ formula_tokens h → f ≡ h
one-tree f h e = (formula-alike f h [] [] tt tt (append-nil (formula_tokens f) ∙ e ∙ sym (append-nil (formula_tokens h)))).0
