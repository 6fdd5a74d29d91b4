-- Reading formulas.
use Rattle.std.proofs.Common.{◌≡◌, ◌&&◌, ◌||◌, ℕ, suc, Bool, true, false, List, [], ◌∷◌, ◌++◌, None, Some, refl, sym, ◌∙◌, ap, append_assoc, append-nil, codes, subst, if◌then◌else◌}
use Rattle.std.proofs.lemmas.Bool.{false≢true}
use Rattle.plain_laws.proofs.Booleans.{or-true}
use Rattle.plain_laws.proofs.Options.{none_some}
use Rattle.tptp_lex.proofs.Runs.{some-is}
use Rattle.tptp_reader.specs.declared.formula_reader.Prefix.{Prefix}
use Rattle.tptp_reader.specs.declared.formula_reader.Prefix.TheVariants.{Bracket, Negation, Universal, Existential, Necessity, Possibility}
use Rattle.tptp_reader.specs.declared.source.BinaryKind.{BinaryKind}
use Rattle.tptp_reader.specs.declared.source.ChainKind.{ChainKind}
use Rattle.tptp_reader.specs.declared.source.ChainKind.TheVariants.{And, Or}
use Rattle.tptp_reader.specs.declared.source.Source as program
use Rattle.tptp_reader.specs.declared.source.Source.TheVariants as source
use Rattle.tptp_reader.specs.declared.terminal.Piece.{Piece}
use Rattle.tptp_reader.specs.Sources as tree
use Rattle.tptp_reader.specs.Lists.{sources_list, sources_tree, sources_tree-sources_list}
use Rattle.tptp_reader.specs.SourceView.{the_source}
use Rattle.tptp_reader.specs.Terminals.{Terminal, open_round, open_square, upper, tilde, exclamation, question, hash, colon, ampersand, bar, implies, implied, equivalent, inequivalent, nor, nand, Follow}
use Rattle.tptp_reader.specs.TerminalView.{the_terminal}
use Rattle.tptp_reader.specs.Pieces.{placed}
use Rattle.tptp_reader.specs.Grammar as g
use Rattle.tptp_reader.specs.Grammar.{AtomTree, Quantifier, universal, existential, Modality, necessity, possibility, UnitTree, bracketed, negation, quantified, under_modality, atomic, FormulaTree, single, chain, binary, no_units, more_units, unit_tokens, units_tokens, variables_tokens, chain_token, binary_token, quantifier_token, modality_token, is_plain_unit, are_plain_units}
use Rattle.tptp_reader.specs.Meaning.{unit_of, units_of, quantified_by, modal_by}
use Rattle.tptp_reader.specs.Nesting.{all_at, term_nestings, terms_nestings, atom_nestings, unit_nestings, units_nestings, formula_nestings}
use Rattle.tptp_reader.specs.Expecting.{is_word}
use Rattle.tptp_reader.specs.Following.{is_shallow}
use Rattle.tptp_reader.specs.Spans.{Span, AreRead}
use Rattle.tptp_reader.specs.Standing.{AtomRead, prefix_in, VariablesRead, UnitRead, FormulaRead, InnerRead, IsClosed, BinaryRead, UnitsRead, ChainRead, ChainUpTo, chain_in, is_chain, binary_in}
use Rattle.tptp_reader.proofs.FormulaForms.{word-is}
use Rattle.tptp_reader.proofs.SpanLaws.{span-more, span-join, span-same, read-more, read-first, read-join}
use Rattle.tptp_reader.proofs.TermReading.{term-shallow}

-- ---- nestings

pub read-all : {A : Type 0} (d : ℕ) → is_shallow d ≡ true → (xs : List A) → AreRead (all_at d xs)
read-all d s [] = refl
read-all d s (x ∷ xs) = read-more d (all_at d xs) s (read-all d s xs)

-- the nesting of a tree is that of its first token
atom-shallow : (d : ℕ) (a : AtomTree) (ns : List ℕ) → AreRead (atom_nestings d a ++ ns) → is_shallow d ≡ true
atom-shallow d g.truth ns r = read-first d ns r
atom-shallow d g.falsity ns r = read-first d ns r
atom-shallow d (g.proposition w) ns r = read-first d ns r
atom-shallow d (g.predication w t us) ns r = read-first d (d ∷ (term_nestings (suc d) t ++ terms_nestings (suc d) us) ++ ns) r
atom-shallow d (g.equation t u) ns r = term-shallow d t (d ∷ term_nestings d u ++ ns) (subst AreRead (append_assoc (term_nestings d t) (d ∷ term_nestings d u) ns) r)
atom-shallow d (g.disequation t u) ns r = term-shallow d t (d ∷ term_nestings d u ++ ns) (subst AreRead (append_assoc (term_nestings d t) (d ∷ term_nestings d u) ns) r)

unit-shallow : (d : ℕ) (u : UnitTree) (ns : List ℕ) → AreRead (unit_nestings d u ++ ns) → is_shallow d ≡ true
unit-shallow d (bracketed f) ns r = read-first d ((formula_nestings (suc d) f ++ suc d ∷ []) ++ ns) r
unit-shallow d (negation u) ns r = read-first d (unit_nestings (suc d) u ++ ns) r
unit-shallow d (quantified q x xs u) ns r = read-first d (d ∷ d ∷ (all_at d (variables_tokens xs) ++ unit_nestings (suc d) u) ++ ns) r
unit-shallow d (under_modality m u) ns r = read-first d (d ∷ unit_nestings (suc d) u ++ ns) r
unit-shallow d (atomic a) ns r = atom-shallow d a ns r

formula-shallow : (d : ℕ) (f : FormulaTree) (ns : List ℕ) → AreRead (formula_nestings d f ++ ns) → is_shallow d ≡ true
formula-shallow d (single u) ns r = unit-shallow d u ns r
formula-shallow d (chain c u v us) ns r =
    let rest = d ∷ (unit_nestings d v ++ units_nestings d us) in
    unit-shallow d u (rest ++ ns) (subst AreRead (append_assoc (unit_nestings d u) rest ns) r)
formula-shallow d (binary c u v) ns r =
    let rest = d ∷ unit_nestings d v in
    unit-shallow d u (rest ++ ns) (subst AreRead (append_assoc (unit_nestings d u) rest ns) r)

more : (ns : List ℕ) → AreRead ns → AreRead (ns ++ [])
more ns a = read-join ns [] a refl

-- ---- how units begin

abbrev pub prefix_token : Prefix → Terminal
prefix_token Bracket = open_round
prefix_token Negation = tilde
prefix_token Universal = exclamation
prefix_token Existential = question
prefix_token Necessity = hash (codes "#box")
prefix_token Possibility = hash (codes "#dia")

-- a modal operator stands only where it may
abbrev pub may_stand : Bool → Prefix → Bool
may_stand modal Necessity = modal
may_stand modal Possibility = modal
may_stand modal _ = true

pub prefix-is : (modal : Bool) (x : Terminal) (k : Prefix) → prefix_in modal x ≡ Some k → (x ≡ prefix_token k) × (may_stand modal k ≡ true)
prefix-is true open_round k e = subst (λ z. (open_round ≡ prefix_token z) × (may_stand true z ≡ true)) (some-is e) (refl, refl)
prefix-is false open_round k e = subst (λ z. (open_round ≡ prefix_token z) × (may_stand false z ≡ true)) (some-is e) (refl, refl)
prefix-is true tilde k e = subst (λ z. (tilde ≡ prefix_token z) × (may_stand true z ≡ true)) (some-is e) (refl, refl)
prefix-is false tilde k e = subst (λ z. (tilde ≡ prefix_token z) × (may_stand false z ≡ true)) (some-is e) (refl, refl)
prefix-is true exclamation k e = subst (λ z. (exclamation ≡ prefix_token z) × (may_stand true z ≡ true)) (some-is e) (refl, refl)
prefix-is false exclamation k e = subst (λ z. (exclamation ≡ prefix_token z) × (may_stand false z ≡ true)) (some-is e) (refl, refl)
prefix-is true question k e = subst (λ z. (question ≡ prefix_token z) × (may_stand true z ≡ true)) (some-is e) (refl, refl)
prefix-is false question k e = subst (λ z. (question ≡ prefix_token z) × (may_stand false z ≡ true)) (some-is e) (refl, refl)
prefix-is true (hash w) k e = by (is_word w (codes "#box")) (is_word w (codes "#dia")) refl refl e
  where
    by : (b d : Bool) → is_word w (codes "#box") ≡ b → is_word w (codes "#dia") ≡ d → (if b then Some Necessity else (if d then Some Possibility else None)) ≡ Some k → (hash w ≡ prefix_token k) × (may_stand true k ≡ true)
    by true d h i q = subst (λ z. (hash w ≡ prefix_token z) × (may_stand true z ≡ true)) (some-is q) (ap hash (word-is w (codes "#box") h), refl)
    by false true h i q = subst (λ z. (hash w ≡ prefix_token z) × (may_stand true z ≡ true)) (some-is q) (ap hash (word-is w (codes "#dia") i), refl)
    by false false h i q = absurd (none_some q)
prefix-is true _ k e = absurd (none_some e)
prefix-is false _ k e = absurd (none_some e)

-- ---- units

pub unit-atom : {modal : Bool} {text : List ℕ} {p q : Piece} (d : ℕ) (s : program.Source) → AtomRead text d p (s, q) → UnitRead modal text d p (s, q)
unit-atom {modal} d s a = record { tree = atomic a.tree; value = a.value; stands = a.stands; fits = or-true modal; shallow = a.shallow }

pub unit-bracket : {modal : Bool} {text : List ℕ} {p start close : Piece} (d inner : ℕ) (s : program.Source) (r : program.Source × Piece) → prefix_in modal (the_terminal p.terminal) ≡ Some Bracket → inner ≡ suc d → is_shallow d ≡ true
    → Follow text p.end (placed start ∷ []) start.end → FormulaRead modal text inner start (s, close) → IsClosed text (the_source s) close r → UnitRead modal text d p r
unit-bracket {modal} {text} {p} {start} {close} d inner s r e i h f a c =
    let u = subst (λ n. FormulaRead modal text n start (s, close)) i a in
    record {
      tree = bracketed u.tree;
      value = c.0 ∙ u.value;
      stands = span-more (prefix-is modal (the_terminal p.terminal) Bracket e).0 f (span-join u.stands c.1);
      fits = u.fits;
      shallow = read-more d (formula_nestings (suc d) u.tree ++ suc d ∷ []) h
          (read-join (formula_nestings (suc d) u.tree) (suc d ∷ []) u.shallow (read-more (suc d) [] (formula-shallow (suc d) u.tree [] (more (formula_nestings (suc d) u.tree) u.shallow)) refl));
    }

-- the unit inside, where its nesting is known
inner-read : {modal : Bool} {text : List ℕ} {start after : Piece} (d inner : ℕ) (s : program.Source) → inner ≡ suc d → UnitRead modal text inner start (s, after) → UnitRead modal text (suc d) start (s, after)
inner-read {modal} {text} {start} {after} d inner s i u = subst (λ n. UnitRead modal text n start (s, after)) i u

pub unit-negation : {modal : Bool} {text : List ℕ} {p start after : Piece} (d inner : ℕ) (a : tree.Source) → prefix_in modal (the_terminal p.terminal) ≡ Some Negation → inner ≡ suc d → is_shallow d ≡ true
    → Follow text p.end (placed start ∷ []) start.end → InnerRead modal text inner start (a, after) → UnitRead modal text d p (source.Not a, after)
unit-negation {modal} {p = p} d inner a e i h f r =
    let u = inner-read d inner r.0 i r.2 in
    record {
      tree = negation u.tree;
      value = ap tree.not (r.1 ∙ u.value);
      stands = span-more (prefix-is modal (the_terminal p.terminal) Negation e).0 f u.stands;
      fits = u.fits;
      shallow = read-more d (unit_nestings (suc d) u.tree) h u.shallow;
    }

-- a quantifier, its variables and its operand
quantified-read : {modal : Bool} {text : List ℕ} {p start after : Piece} (d inner : ℕ) (q : Quantifier) (names : List (List ℕ)) (a : tree.Source) (s : program.Source) → the_terminal p.terminal ≡ quantifier_token q → inner ≡ suc d → is_shallow d ≡ true
    → VariablesRead text p (names, start) → InnerRead modal text inner start (a, after) → the_source s ≡ quantified_by q names a → UnitRead modal text d p (s, after)
quantified-read {text = text} {p} {start} {after} d inner q names a s e i h v r k =
    let u = inner-read d inner r.0 i r.2 in
    record {
      tree = quantified q v.first v.others u.tree;
      value = k ∙ (λ j. quantified_by q (v.value j) ((r.1 ∙ u.value) j));
      stands = span-same (span-join v.stands u.stands) (ap (λ z. z ∷ open_square ∷ upper v.first ∷ (variables_tokens v.others ++ unit_tokens u.tree)) e);
      fits = u.fits;
      shallow = read-more d (d ∷ d ∷ (all_at d (variables_tokens v.others) ++ unit_nestings (suc d) u.tree)) h
          (read-more d (d ∷ (all_at d (variables_tokens v.others) ++ unit_nestings (suc d) u.tree)) h
          (read-more d (all_at d (variables_tokens v.others) ++ unit_nestings (suc d) u.tree) h
          (read-join (all_at d (variables_tokens v.others)) (unit_nestings (suc d) u.tree) (read-all d h (variables_tokens v.others)) u.shallow)));
    }

pub unit-universal : {modal : Bool} {text : List ℕ} {p start after : Piece} (d inner : ℕ) (names : List (List ℕ)) (a : tree.Source) → prefix_in modal (the_terminal p.terminal) ≡ Some Universal → inner ≡ suc d → is_shallow d ≡ true
    → VariablesRead text p (names, start) → InnerRead modal text inner start (a, after) → UnitRead modal text d p (source.All names a, after)
unit-universal {modal} {p = p} d inner names a e i h v r = quantified-read d inner universal names a (source.All names a) (prefix-is modal (the_terminal p.terminal) Universal e).0 i h v r refl

pub unit-existential : {modal : Bool} {text : List ℕ} {p start after : Piece} (d inner : ℕ) (names : List (List ℕ)) (a : tree.Source) → prefix_in modal (the_terminal p.terminal) ≡ Some Existential → inner ≡ suc d → is_shallow d ≡ true
    → VariablesRead text p (names, start) → InnerRead modal text inner start (a, after) → UnitRead modal text d p (source.Ex names a, after)
unit-existential {modal} {p = p} d inner names a e i h v r = quantified-read d inner existential names a (source.Ex names a) (prefix-is modal (the_terminal p.terminal) Existential e).0 i h v r refl

-- a modal operator and its operand
modal-read : {modal : Bool} {text : List ℕ} {p start after : Piece} (d inner : ℕ) (m : Modality) (a : tree.Source) (s : program.Source) → the_terminal p.terminal ≡ modality_token m → modal ≡ true → inner ≡ suc d → is_shallow d ≡ true
    → Span text p (the_terminal p.terminal ∷ colon ∷ []) start → InnerRead modal text inner start (a, after) → the_source s ≡ modal_by m a → UnitRead modal text d p (s, after)
modal-read {modal} d inner m a s e may i h c r k =
    let u = inner-read d inner r.0 i r.2 in
    record {
      tree = under_modality m u.tree;
      value = k ∙ ap (modal_by m) (r.1 ∙ u.value);
      stands = span-same (span-join c u.stands) (ap (λ z. z ∷ colon ∷ unit_tokens u.tree) e);
      fits = ap (λ z. z || false) may;
      shallow = read-more d (d ∷ unit_nestings (suc d) u.tree) h (read-more d (unit_nestings (suc d) u.tree) h u.shallow);
    }

pub unit-necessity : {modal : Bool} {text : List ℕ} {p start after : Piece} (d inner : ℕ) (a : tree.Source) → prefix_in modal (the_terminal p.terminal) ≡ Some Necessity → inner ≡ suc d → is_shallow d ≡ true
    → Span text p (the_terminal p.terminal ∷ colon ∷ []) start → InnerRead modal text inner start (a, after) → UnitRead modal text d p (source.Nec a, after)
unit-necessity {modal} {p = p} d inner a e i h c r =
    let k = prefix-is modal (the_terminal p.terminal) Necessity e in modal-read d inner necessity a (source.Nec a) k.0 k.1 i h c r refl

pub unit-possibility : {modal : Bool} {text : List ℕ} {p start after : Piece} (d inner : ℕ) (a : tree.Source) → prefix_in modal (the_terminal p.terminal) ≡ Some Possibility → inner ≡ suc d → is_shallow d ≡ true
    → Span text p (the_terminal p.terminal ∷ colon ∷ []) start → InnerRead modal text inner start (a, after) → UnitRead modal text d p (source.Poss a, after)
unit-possibility {modal} {p = p} d inner a e i h c r =
    let k = prefix-is modal (the_terminal p.terminal) Possibility e in modal-read d inner possibility a (source.Poss a) k.0 k.1 i h c r refl

-- ---- formulas

-- what may stand in both may stand in the whole
fits-both : (m a b : Bool) → (m || a) ≡ true → (m || b) ≡ true → (m || (a && b)) ≡ true
fits-both true a b h k = refl
fits-both false true b h k = k
fits-both false false b h k = h

fits-three : (m a b c : Bool) → (m || a) ≡ true → (m || (b && c)) ≡ true → (m || (a && b && c)) ≡ true
fits-three true a b c h k = refl
fits-three false true b c h k = k
fits-three false false b c h k = absurd (false≢true h)

pub chain-is : (x : Terminal) (c : ChainKind) → chain_in x ≡ Some c → x ≡ chain_token c
chain-is ampersand c e = ap chain_token (some-is e)
chain-is bar c e = ap chain_token (some-is e)
chain-is _ c e = absurd (none_some e)

pub is-chain : (c : ChainKind) (x : Terminal) → is_chain c x ≡ true → x ≡ chain_token c
is-chain And ampersand e = refl
is-chain Or bar e = refl
is-chain And _ e = absurd (false≢true e)
is-chain Or _ e = absurd (false≢true e)

pub binary-is : (x : Terminal) (c : BinaryKind) → binary_in x ≡ Some c → x ≡ binary_token c
binary-is implies c e = ap binary_token (some-is e)
binary-is implied c e = ap binary_token (some-is e)
binary-is equivalent c e = ap binary_token (some-is e)
binary-is inequivalent c e = ap binary_token (some-is e)
binary-is nor c e = ap binary_token (some-is e)
binary-is nand c e = ap binary_token (some-is e)
binary-is _ c e = absurd (none_some e)

pub formula-single : {modal : Bool} {text : List ℕ} {p sign : Piece} (d : ℕ) (s : program.Source) → UnitRead modal text d p (s, sign) → FormulaRead modal text d p (s, sign)
formula-single d s u = record { tree = single u.tree; value = u.value; stands = u.stands; fits = u.fits; shallow = u.shallow }

pub formula-binary : {modal : Bool} {text : List ℕ} {p sign : Piece} (d : ℕ) (c : BinaryKind) (s : program.Source) (r : program.Source × Piece) → UnitRead modal text d p (s, sign) → binary_in (the_terminal sign.terminal) ≡ Some c → BinaryRead modal text d c (the_source s) sign r
    → FormulaRead modal text d p r
formula-binary {modal} {sign = sign} d c s r u e b = record {
  tree = binary c u.tree b.right;
  value = b.value ∙ ap (λ z. tree.binary c z (unit_of b.right)) u.value;
  stands = span-join u.stands (span-same b.stands (ap (λ z. z ∷ unit_tokens b.right) (binary-is (the_terminal sign.terminal) c e)));
  fits = fits-both modal (is_plain_unit u.tree) (is_plain_unit b.right) u.fits b.fits;
  shallow = read-join (unit_nestings d u.tree) (d ∷ unit_nestings d b.right) u.shallow (read-more d (unit_nestings d b.right) (unit-shallow d u.tree [] (more (unit_nestings d u.tree) u.shallow)) b.shallow);
}

pub binary-read : {modal : Bool} {text : List ℕ} {sign start after : Piece} (d : ℕ) (c : BinaryKind) (left first right : tree.Source) → left ≡ first → Follow text sign.end (placed start ∷ []) start.end → InnerRead modal text d start (right, after)
    → BinaryRead modal text d c first sign (source.Binary c left right, after)
binary-read d c left first right e f r = record {
  right = r.2.tree;
  value = λ i. tree.binary c (e i) ((r.1 ∙ r.2.value) i);
  stands = span-more refl f r.2.stands;
  fits = r.2.fits;
  shallow = r.2.shallow;
}

-- ---- chains

-- behind the first unit
pub chain-begun : {modal : Bool} {text : List ℕ} {sign : Piece} (d : ℕ) (c : ChainKind) (first : tree.Source) (read : List tree.Source) → read ≡ first ∷ [] → ChainUpTo modal text d c first sign read sign
chain-begun d c first read e = λ v us q s f a. record {
  second = v;
  others = us;
  value = ap (λ z. z ++ unit_of v ∷ sources_list (units_of us)) e;
  stands = s;
  fits = f;
  shallow = a;
}

-- one unit more, and the same connective behind it
pub chain-on : {modal : Bool} {text : List ℕ} {sign here start next : Piece} (d : ℕ) (c : ChainKind) (first : tree.Source) (read : List tree.Source) (s : program.Source) → ChainUpTo modal text d c first sign read here → Follow text here.end (placed start ∷ []) start.end
    → UnitRead modal text d start (s, next) → is_chain c (the_terminal next.terminal) ≡ true → ChainUpTo modal text d c first sign (read ++ the_source s ∷ []) next
chain-on {modal} {text} {sign} {next = next} d c first read s r f u e = λ v us q h k a.
    let m = r u.tree (more_units v us) q (span-more refl f (span-join u.stands (span-same h (ap (λ z. z ∷ (unit_tokens v ++ units_tokens c us)) (is-chain c (the_terminal next.terminal) e)))))
    (fits-both modal (is_plain_unit u.tree) (is_plain_unit v && are_plain_units us) u.fits k)
    (read-join (unit_nestings d u.tree) (units_nestings d (more_units v us)) u.shallow
    (read-more d (unit_nestings d v ++ units_nestings d us) (unit-shallow d v (units_nestings d us) a) a)) in
    subst (λ (z : List tree.Source). UnitsRead modal text d c first sign z q) (ap (λ z. read ++ z ∷ unit_of v ∷ sources_list (units_of us)) (sym u.value) ∙ sym (append_assoc read (the_source s ∷ []) (unit_of v ∷ sources_list (units_of us)))) m

-- the last unit
pub chain-done : {modal : Bool} {text : List ℕ} {sign here start next : Piece} (d : ℕ) (c : ChainKind) (first : tree.Source) (read units : List tree.Source) (s : program.Source) → ChainUpTo modal text d c first sign read here → Follow text here.end (placed start ∷ []) start.end
    → UnitRead modal text d start (s, next) → units ≡ read ++ the_source s ∷ [] → ChainRead modal text d c first sign (source.Chain c units, next)
chain-done {modal} {text} {sign} {next = next} d c first read units s r f u e =
    let m = r u.tree no_units next (span-more refl f (span-same u.stands (sym (append-nil (unit_tokens u.tree)))))
    (fits-both modal (is_plain_unit u.tree) true u.fits (or-true modal))
    (more (unit_nestings d u.tree) u.shallow) in
    (units, refl, subst (λ (z : List tree.Source). UnitsRead modal text d c first sign z next) (ap (λ z. read ++ z ∷ []) (sym u.value) ∙ sym e) m)

pub formula-chain : {modal : Bool} {text : List ℕ} {p sign : Piece} (d : ℕ) (c : ChainKind) (s : program.Source) (r : program.Source × Piece) → UnitRead modal text d p (s, sign) → chain_in (the_terminal sign.terminal) ≡ Some c → ChainRead modal text d c (the_source s) sign r
    → FormulaRead modal text d p r
formula-chain {modal} {sign = sign} d c s r u e k =
    let m = k.2 in
    record {
      tree = chain c u.tree m.second m.others;
      value = k.1 ∙ ap (λ z. tree.chain c (sources_tree z)) (m.value ∙ ap (λ z. z ∷ unit_of m.second ∷ sources_list (units_of m.others)) u.value)
          ∙ ap (λ z. tree.chain c (tree.more_sources (unit_of u.tree) (tree.more_sources (unit_of m.second) z))) (sources_tree-sources_list (units_of m.others));
      stands = span-join u.stands (span-same m.stands (ap (λ z. z ∷ (unit_tokens m.second ++ units_tokens c m.others)) (chain-is (the_terminal sign.terminal) c e)));
      fits = fits-three modal (is_plain_unit u.tree) (is_plain_unit m.second) (are_plain_units m.others) u.fits m.fits;
      shallow = read-join (unit_nestings d u.tree) (d ∷ (unit_nestings d m.second ++ units_nestings d m.others)) u.shallow (read-more d (unit_nestings d m.second ++ units_nestings d m.others) (unit-shallow d u.tree [] (more (unit_nestings d u.tree) u.shallow)) m.shallow);
    }
