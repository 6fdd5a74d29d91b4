-- The tokens of each tree, with their nestings, have a derivation.
use Rattle.std.proofs.Common.{◌≡◌, ◌&&◌, ◌||◌, ℕ, suc, Bool, true, false, List, [], ◌∷◌, ◌++◌, Option, None, Some, refl, sym, ◌∙◌, ap, append_assoc, subst, IsTrue, flat_map}
use Rattle.std.specs.List.{list_all}
use Rattle.tptp_reader.specs.declared.source.ChainKind.{ChainKind}
use Rattle.tptp_reader.specs.declared.source.ChainKind.TheVariants.{And, Or}
use Rattle.tptp_reader.specs.declared.source.BinaryKind.{BinaryKind}
use Rattle.tptp_reader.specs.declared.source.BinaryKind.TheVariants.{Imp, If, Iff, Xor, Nor, Nand}
use Rattle.tptp_reader.specs.Terminals.{Terminal, hash, open_round, close_round, open_square, close_square, comma, dot, tilde, exclamation, question, equal, unequal}
use Rattle.tptp_reader.specs.Grammar as g
use Rattle.tptp_reader.specs.Grammar.{Word, plain, in_quotes, TermTree, TermTrees, AtomTree, UnitTree, FormulaTree, UnitTrees, LiteralTree, ClauseTree, NameTree, ItemTree, term_tokens, terms_tokens, atom_tokens, unit_tokens, formula_tokens, units_tokens, variables_tokens, word_token}
use Rattle.tptp_reader.specs.Nesting.{all_at, term_nestings, terms_nestings, atom_nestings, unit_nestings, formula_nestings, units_nestings, literal_nestings, literals_nestings, clause_nestings, end_nestings, item_nestings, text_nestings}
use Rattle.tptp_reader.specs.Expecting.{Expected, a_closing, a_dot, this, term, arguments, some_equation, equation, atom, variables, unit, formula, formula_rest, chain_rest, literal, unsigned, literals_rest, clause, clause_open, clause_rest, items, name, after_body, first_note, notes, names_rest}
use Rattle.std.proofs.lemmas.Bool.{and_parts, false≢true}
use Rattle.plain_laws.proofs.Booleans.{or-both_parts}
use Rattle.plain_laws.proofs.Options.{none_some}
use Rattle.tptp_reader.specs.Expecting.{atom_move, unit_move, unsigned_move, literal_move, before, clause_move, clause_open_move, this_move, notes_move, first_note_move}
use Rattle.tptp_reader.proofs.Deriving.{Derives, ends, takes, skips, reassociated}

mutual
  pub term-derives : (t : TermTree) (modal : Bool) (d : ℕ) (es : List Expected) (ts : List Terminal) (ns : List ℕ) → Derives modal es ts ns → Derives modal (term d ∷ es) (term_tokens t ++ ts) (term_nestings d t ++ ns)
  term-derives (g.variable x) modal d es ts ns h = takes refl h
  term-derives (g.constant (plain w)) modal d es ts ns h = takes refl (skips refl h)
  term-derives (g.constant (in_quotes w)) modal d es ts ns h = takes refl (skips refl h)
  term-derives (g.application (plain w) t us) modal d es ts ns h =
      takes refl (takes refl (reassociated (term_tokens t) (terms_tokens us) ts (term_nestings (suc d) t) (terms_nestings (suc d) us) ns
      (term-derives t modal (suc d) (arguments (suc d) ∷ es) (terms_tokens us ++ ts) (terms_nestings (suc d) us ++ ns) (terms-derive us modal (suc d) es ts ns h))))
  term-derives (g.application (in_quotes w) t us) modal d es ts ns h =
      takes refl (takes refl (reassociated (term_tokens t) (terms_tokens us) ts (term_nestings (suc d) t) (terms_nestings (suc d) us) ns
      (term-derives t modal (suc d) (arguments (suc d) ∷ es) (terms_tokens us ++ ts) (terms_nestings (suc d) us ++ ns) (terms-derive us modal (suc d) es ts ns h))))

  pub terms-derive : (us : TermTrees) (modal : Bool) (d : ℕ) (es : List Expected) (ts : List Terminal) (ns : List ℕ) → Derives modal es ts ns → Derives modal (arguments d ∷ es) (terms_tokens us ++ ts) (terms_nestings d us ++ ns)
  terms-derive g.no_terms modal d es ts ns h = takes refl h
  terms-derive (g.more_terms t us) modal d es ts ns h =
      takes refl (reassociated (term_tokens t) (terms_tokens us) ts (term_nestings d t) (terms_nestings d us) ns
      (term-derives t modal d (arguments d ∷ es) (terms_tokens us ++ ts) (terms_nestings d us ++ ns) (terms-derive us modal d es ts ns h)))

-- ---- atoms, also where a unit, a literal or a clause is expected

left-side : (t : TermTree) (modal : Bool) (d : ℕ) (es : List Expected) (ts : List Terminal) (ns : List ℕ) → Derives modal (equation d ∷ es) ts ns → Derives modal (some_equation d ∷ es) ts ns → Derives modal (atom d ∷ es) (term_tokens t ++ ts) (term_nestings d t ++ ns)
left-side (g.variable x) modal d es ts ns h k = takes refl h
left-side (g.constant (plain w)) modal d es ts ns h k = takes refl (skips refl k)
left-side (g.constant (in_quotes w)) modal d es ts ns h k = takes refl (skips refl k)
left-side (g.application (plain w) t us) modal d es ts ns h k =
    takes refl (takes refl (reassociated (term_tokens t) (terms_tokens us) ts (term_nestings (suc d) t) (terms_nestings (suc d) us) ns
    (term-derives t modal (suc d) (arguments (suc d) ∷ some_equation d ∷ es) (terms_tokens us ++ ts) (terms_nestings (suc d) us ++ ns) (terms-derive us modal (suc d) (some_equation d ∷ es) ts ns k))))
left-side (g.application (in_quotes w) t us) modal d es ts ns h k =
    takes refl (takes refl (reassociated (term_tokens t) (terms_tokens us) ts (term_nestings (suc d) t) (terms_nestings (suc d) us) ns
    (term-derives t modal (suc d) (arguments (suc d) ∷ some_equation d ∷ es) (terms_tokens us ++ ts) (terms_nestings (suc d) us ++ ns) (terms-derive us modal (suc d) (some_equation d ∷ es) ts ns k))))

pub atom-derives : (a : AtomTree) (modal : Bool) (d : ℕ) (es : List Expected) (ts : List Terminal) (ns : List ℕ) → Derives modal es ts ns → Derives modal (atom d ∷ es) (atom_tokens a ++ ts) (atom_nestings d a ++ ns)
atom-derives g.truth modal d es ts ns h = takes refl h
atom-derives g.falsity modal d es ts ns h = takes refl h
atom-derives (g.proposition (plain w)) modal d es ts ns h = takes refl (skips refl (skips refl h))
atom-derives (g.proposition (in_quotes w)) modal d es ts ns h = takes refl (skips refl (skips refl h))
atom-derives (g.predication (plain w) t us) modal d es ts ns h =
    takes refl (takes refl (reassociated (term_tokens t) (terms_tokens us) ts (term_nestings (suc d) t) (terms_nestings (suc d) us) ns
    (term-derives t modal (suc d) (arguments (suc d) ∷ some_equation d ∷ es) (terms_tokens us ++ ts) (terms_nestings (suc d) us ++ ns) (terms-derive us modal (suc d) (some_equation d ∷ es) ts ns (skips refl h)))))
atom-derives (g.predication (in_quotes w) t us) modal d es ts ns h =
    takes refl (takes refl (reassociated (term_tokens t) (terms_tokens us) ts (term_nestings (suc d) t) (terms_nestings (suc d) us) ns
    (term-derives t modal (suc d) (arguments (suc d) ∷ some_equation d ∷ es) (terms_tokens us ++ ts) (terms_nestings (suc d) us ++ ns) (terms-derive us modal (suc d) (some_equation d ∷ es) ts ns (skips refl h)))))
atom-derives (g.equation s t) modal d es ts ns h =
    reassociated (term_tokens s) (equal ∷ term_tokens t) ts (term_nestings d s) (d ∷ term_nestings d t) ns
    (left-side s modal d es (equal ∷ (term_tokens t ++ ts)) (d ∷ (term_nestings d t ++ ns)) (takes refl (term-derives t modal d es ts ns h)) (takes refl (term-derives t modal d es ts ns h)))
atom-derives (g.disequation s t) modal d es ts ns h =
    reassociated (term_tokens s) (unequal ∷ term_tokens t) ts (term_nestings d s) (d ∷ term_nestings d t) ns
    (left-side s modal d es (unequal ∷ (term_tokens t ++ ts)) (d ∷ (term_nestings d t ++ ns)) (takes refl (term-derives t modal d es ts ns h)) (takes refl (term-derives t modal d es ts ns h)))

pub unit-move-of-atom : (modal : Bool) (d : ℕ) (x : Terminal) (r : ℕ × List Expected) → atom_move d x ≡ Some r → unit_move modal d x ≡ Some r
unit-move-of-atom modal d open_round r h = absurd (none_some h)
unit-move-of-atom modal d tilde r h = absurd (none_some h)
unit-move-of-atom modal d exclamation r h = absurd (none_some h)
unit-move-of-atom modal d question r h = absurd (none_some h)
unit-move-of-atom modal d (hash w) r h = absurd (none_some h)
unit-move-of-atom modal d _ r h = h

pub unsigned-move-of-atom : (d : ℕ) (x : Terminal) (r : ℕ × List Expected) → atom_move d x ≡ Some r → unsigned_move d x ≡ Some r
unsigned-move-of-atom d open_round r h = absurd (none_some h)
unsigned-move-of-atom d _ r h = h

pub literal-move-of-unsigned : (d : ℕ) (x : Terminal) (r : ℕ × List Expected) → unsigned_move d x ≡ Some r → literal_move d x ≡ Some r
literal-move-of-unsigned d tilde r h = absurd (none_some h)
literal-move-of-unsigned d _ r h = h

unit-as : {modal : Bool} {d : ℕ} {es : List Expected} {ts : List Terminal} {ns : List ℕ} → Derives modal (atom d ∷ es) ts ns → Derives modal (unit d ∷ es) ts ns
unit-as {modal} {d} (takes {new = new} {x = x} {n = n} m h) = takes (unit-move-of-atom modal d x (n, new) m) h
unit-as (skips o h) = absurd (false≢true o)

formula-as : {modal : Bool} {d : ℕ} {es : List Expected} {ts : List Terminal} {ns : List ℕ} → Derives modal (unit d ∷ formula_rest d ∷ es) ts ns → Derives modal (formula d ∷ es) ts ns
formula-as {modal} {d} {es} (takes {new = new} {ts = ts} {ns = ns} m h) =
    takes (ap (before (formula_rest d ∷ [])) m) (subst (λ s. Derives modal s ts ns) (sym (append_assoc new (formula_rest d ∷ []) es)) h)
formula-as (skips o h) = absurd (false≢true o)

-- ---- formulas

variables-derive : (xs : List (List ℕ)) (modal : Bool) (d : ℕ) (es : List Expected) (ts : List Terminal) (ns : List ℕ) → Derives modal es ts ns → Derives modal (variables d ∷ es) (variables_tokens xs ++ ts) (all_at d (variables_tokens xs) ++ ns)
variables-derive [] modal d es ts ns h = takes refl (takes refl h)
variables-derive (x ∷ xs) modal d es ts ns h = takes refl (takes refl (variables-derive xs modal d es ts ns h))

binary-step : (c : BinaryKind) (modal : Bool) (d : ℕ) (es : List Expected) (ts : List Terminal) (ns : List ℕ) → Derives modal (unit d ∷ es) ts ns → Derives modal (formula_rest d ∷ es) (g.binary_token c ∷ ts) (d ∷ ns)
binary-step Imp modal d es ts ns h = takes refl h
binary-step If modal d es ts ns h = takes refl h
binary-step Iff modal d es ts ns h = takes refl h
binary-step Xor modal d es ts ns h = takes refl h
binary-step Nor modal d es ts ns h = takes refl h
binary-step Nand modal d es ts ns h = takes refl h

chain-first : (c : ChainKind) (modal : Bool) (d : ℕ) (es : List Expected) (ts : List Terminal) (ns : List ℕ) → Derives modal (unit d ∷ chain_rest c d ∷ es) ts ns → Derives modal (formula_rest d ∷ es) (g.chain_token c ∷ ts) (d ∷ ns)
chain-first And modal d es ts ns h = takes refl h
chain-first Or modal d es ts ns h = takes refl h

chain-next : (c : ChainKind) (modal : Bool) (d : ℕ) (es : List Expected) (ts : List Terminal) (ns : List ℕ) → Derives modal (unit d ∷ chain_rest c d ∷ es) ts ns → Derives modal (chain_rest c d ∷ es) (g.chain_token c ∷ ts) (d ∷ ns)
chain-next And modal d es ts ns h = takes refl h
chain-next Or modal d es ts ns h = takes refl h

mutual
  pub unit-derives : (u : UnitTree) (modal : Bool) → IsTrue (modal || g.is_plain_unit u) → (d : ℕ) (es : List Expected) (ts : List Terminal) (ns : List ℕ) → Derives modal es ts ns → Derives modal (unit d ∷ es) (unit_tokens u ++ ts) (unit_nestings d u ++ ns)
  unit-derives (g.bracketed f) modal p d es ts ns h =
      takes refl (reassociated (formula_tokens f) (close_round ∷ []) ts (formula_nestings (suc d) f) (suc d ∷ []) ns
      (formula-derives f modal p (suc d) (this a_closing (suc d) ∷ es) (close_round ∷ ts) (suc d ∷ ns) (takes refl h)))
  unit-derives (g.negation u) modal p d es ts ns h = takes refl (unit-derives u modal p (suc d) es ts ns h)
  unit-derives (g.quantified g.universal x xs u) modal p d es ts ns h =
      takes refl (takes refl (takes refl (reassociated (variables_tokens xs) (unit_tokens u) ts (all_at d (variables_tokens xs)) (unit_nestings (suc d) u) ns
      (variables-derive xs modal d (unit (suc d) ∷ es) (unit_tokens u ++ ts) (unit_nestings (suc d) u ++ ns) (unit-derives u modal p (suc d) es ts ns h)))))
  unit-derives (g.quantified g.existential x xs u) modal p d es ts ns h =
      takes refl (takes refl (takes refl (reassociated (variables_tokens xs) (unit_tokens u) ts (all_at d (variables_tokens xs)) (unit_nestings (suc d) u) ns
      (variables-derive xs modal d (unit (suc d) ∷ es) (unit_tokens u ++ ts) (unit_nestings (suc d) u ++ ns) (unit-derives u modal p (suc d) es ts ns h)))))
  unit-derives (g.under_modality g.necessity u) true p d es ts ns h = takes refl (takes refl (unit-derives u true refl (suc d) es ts ns h))
  unit-derives (g.under_modality g.possibility u) true p d es ts ns h = takes refl (takes refl (unit-derives u true refl (suc d) es ts ns h))
  unit-derives (g.under_modality m u) false p d es ts ns h = absurd (false≢true p)
  unit-derives (g.atomic a) modal p d es ts ns h = unit-as (atom-derives a modal d es ts ns h)

  pub formula-derives : (f : FormulaTree) (modal : Bool) → IsTrue (modal || g.is_plain f) → (d : ℕ) (es : List Expected) (ts : List Terminal) (ns : List ℕ) → Derives modal es ts ns → Derives modal (formula d ∷ es) (formula_tokens f ++ ts) (formula_nestings d f ++ ns)
  formula-derives (g.single u) modal p d es ts ns h = formula-as (unit-derives u modal p d (formula_rest d ∷ es) ts ns (skips refl h))
  formula-derives (g.chain c u v us) modal p d es ts ns h =
      let q = or-both_parts modal (g.is_plain_unit u && g.is_plain_unit v) (g.are_plain_units us) p in
      let r = or-both_parts modal (g.is_plain_unit u) (g.is_plain_unit v) q.0 in
      formula-as (reassociated (unit_tokens u) (g.chain_token c ∷ (unit_tokens v ++ units_tokens c us)) ts (unit_nestings d u) (d ∷ (unit_nestings d v ++ units_nestings d us)) ns
      (unit-derives u modal r.0 d (formula_rest d ∷ es) (g.chain_token c ∷ ((unit_tokens v ++ units_tokens c us) ++ ts)) (d ∷ ((unit_nestings d v ++ units_nestings d us) ++ ns))
      (chain-first c modal d es ((unit_tokens v ++ units_tokens c us) ++ ts) ((unit_nestings d v ++ units_nestings d us) ++ ns)
      (reassociated (unit_tokens v) (units_tokens c us) ts (unit_nestings d v) (units_nestings d us) ns
      (unit-derives v modal r.1 d (chain_rest c d ∷ es) (units_tokens c us ++ ts) (units_nestings d us ++ ns) (units-derive us c modal q.1 d es ts ns h))))))
  formula-derives (g.binary c u v) modal p d es ts ns h =
      let q = or-both_parts modal (g.is_plain_unit u) (g.is_plain_unit v) p in
      formula-as (reassociated (unit_tokens u) (g.binary_token c ∷ unit_tokens v) ts (unit_nestings d u) (d ∷ unit_nestings d v) ns
      (unit-derives u modal q.0 d (formula_rest d ∷ es) (g.binary_token c ∷ (unit_tokens v ++ ts)) (d ∷ (unit_nestings d v ++ ns))
      (binary-step c modal d es (unit_tokens v ++ ts) (unit_nestings d v ++ ns) (unit-derives v modal q.1 d es ts ns h))))

  pub units-derive : (us : UnitTrees) (c : ChainKind) (modal : Bool) → IsTrue (modal || g.are_plain_units us) → (d : ℕ) (es : List Expected) (ts : List Terminal) (ns : List ℕ) → Derives modal es ts ns → Derives modal (chain_rest c d ∷ es) (units_tokens c us ++ ts) (units_nestings d us ++ ns)
  units-derive g.no_units c modal p d es ts ns h = skips refl h
  units-derive (g.more_units u us) c modal p d es ts ns h =
      let q = or-both_parts modal (g.is_plain_unit u) (g.are_plain_units us) p in
      chain-next c modal d es ((unit_tokens u ++ units_tokens c us) ++ ts) ((unit_nestings d u ++ units_nestings d us) ++ ns)
      (reassociated (unit_tokens u) (units_tokens c us) ts (unit_nestings d u) (units_nestings d us) ns
      (unit-derives u modal q.0 d (chain_rest c d ∷ es) (units_tokens c us ++ ts) (units_nestings d us ++ ns) (units-derive us c modal q.1 d es ts ns h)))

-- ---- clauses

shift : {A : Type 0} (a b c d : List A) → ((a ++ b) ++ c) ++ d ≡ a ++ ((b ++ c) ++ d)
shift a b c d = ap (λ t. t ++ d) (append_assoc a b c) ∙ append_assoc a (b ++ c) d

shifted : {modal : Bool} {es : List Expected} (a b c d : List Terminal) (k l m n : List ℕ) → Derives modal es (a ++ ((b ++ c) ++ d)) (k ++ ((l ++ m) ++ n)) → Derives modal es (((a ++ b) ++ c) ++ d) (((k ++ l) ++ m) ++ n)
shifted {modal} {es} a b c d k l m n h =
    subst (λ t. Derives modal es t (((k ++ l) ++ m) ++ n)) (sym (shift a b c d)) (subst (λ q. Derives modal es (a ++ ((b ++ c) ++ d)) q) (sym (shift k l m n)) h)

pub clause-move-of-atom : (x : Terminal) (r : ℕ × List Expected) → before (literals_rest 0 ∷ []) (atom_move 0 x) ≡ Some r → clause_move x ≡ Some r
clause-move-of-atom open_round r h = absurd (none_some h)
clause-move-of-atom tilde r h = absurd (none_some h)
clause-move-of-atom _ r h = h

pub clause_open-move-of-atom : (x : Terminal) (r : ℕ × List Expected) → before (clause_rest ∷ []) (atom_move 1 x) ≡ Some r → clause_open_move x ≡ Some r
clause_open-move-of-atom open_round r h = absurd (none_some h)
clause_open-move-of-atom tilde r h = absurd (none_some h)
clause_open-move-of-atom _ r h = h

unsigned-as : {modal : Bool} {d : ℕ} {es : List Expected} {ts : List Terminal} {ns : List ℕ} → Derives modal (atom d ∷ es) ts ns → Derives modal (unsigned d ∷ es) ts ns
unsigned-as {modal} {d} (takes {new = new} {x = x} {n = n} m h) = takes (unsigned-move-of-atom d x (n, new) m) h
unsigned-as (skips o h) = absurd (false≢true o)

literal-as : {modal : Bool} {d : ℕ} {es : List Expected} {ts : List Terminal} {ns : List ℕ} → Derives modal (unsigned d ∷ es) ts ns → Derives modal (literal d ∷ es) ts ns
literal-as {modal} {d} (takes {new = new} {x = x} {n = n} m h) = takes (literal-move-of-unsigned d x (n, new) m) h
literal-as (skips o h) = absurd (false≢true o)

bracketed-atom : (a : AtomTree) (modal : Bool) (d : ℕ) (es : List Expected) (ts : List Terminal) (ns : List ℕ) → Derives modal es ts ns → Derives modal (atom d ∷ this a_closing d ∷ es) ((atom_tokens a ++ close_round ∷ []) ++ ts) ((atom_nestings d a ++ d ∷ []) ++ ns)
bracketed-atom a modal d es ts ns h =
    reassociated (atom_tokens a) (close_round ∷ []) ts (atom_nestings d a) (d ∷ []) ns (atom-derives a modal d (this a_closing d ∷ es) (close_round ∷ ts) (d ∷ ns) (takes refl h))

literal-derives : (l : LiteralTree) (modal : Bool) (d : ℕ) (es : List Expected) (ts : List Terminal) (ns : List ℕ) → Derives modal es ts ns → Derives modal (literal d ∷ es) (g.literal_tokens l ++ ts) (literal_nestings d l ++ ns)
literal-derives (g.positive a) modal d es ts ns h = literal-as (unsigned-as (atom-derives a modal d es ts ns h))
literal-derives (g.negative a) modal d es ts ns h = takes refl (unsigned-as (atom-derives a modal (suc d) es ts ns h))
literal-derives (g.positive_bracketed a) modal d es ts ns h = takes refl (bracketed-atom a modal (suc d) es ts ns h)
literal-derives (g.negative_bracketed a) modal d es ts ns h = takes refl (takes refl (bracketed-atom a modal (suc (suc d)) es ts ns h))

literals-derive : (ls : List LiteralTree) (modal : Bool) (d : ℕ) (es : List Expected) (ts : List Terminal) (ns : List ℕ) → Derives modal es ts ns → Derives modal (literals_rest d ∷ es) (g.literals_tokens ls ++ ts) (literals_nestings d ls ++ ns)
literals-derive [] modal d es ts ns h = skips refl h
literals-derive (l ∷ ls) modal d es ts ns h =
    takes refl (reassociated (g.literal_tokens l) (g.literals_tokens ls) ts (literal_nestings d l) (literals_nestings d ls) ns
    (literal-derives l modal d (literals_rest d ∷ es) (g.literals_tokens ls ++ ts) (literals_nestings d ls ++ ns) (literals-derive ls modal d es ts ns h)))

-- an atom before a part, where the part may stand for both
clause-as : {modal : Bool} {es : List Expected} {ts : List Terminal} {ns : List ℕ} → Derives modal (atom 0 ∷ literals_rest 0 ∷ es) ts ns → Derives modal (clause ∷ es) ts ns
clause-as {modal} {es} (takes {new = new} {x = x} {n = n} {ts = ts} {ns = ns} m h) =
    takes (clause-move-of-atom x (n, new ++ literals_rest 0 ∷ []) (ap (before (literals_rest 0 ∷ [])) m)) (subst (λ s. Derives modal s ts ns) (sym (append_assoc new (literals_rest 0 ∷ []) es)) h)
clause-as (skips o h) = absurd (false≢true o)

clause_open-as : {modal : Bool} {es : List Expected} {ts : List Terminal} {ns : List ℕ} → Derives modal (atom 1 ∷ clause_rest ∷ es) ts ns → Derives modal (clause_open ∷ es) ts ns
clause_open-as {modal} {es} (takes {new = new} {x = x} {n = n} {ts = ts} {ns = ns} m h) =
    takes (clause_open-move-of-atom x (n, new ++ clause_rest ∷ []) (ap (before (clause_rest ∷ [])) m)) (subst (λ s. Derives modal s ts ns) (sym (append_assoc new (clause_rest ∷ []) es)) h)
clause_open-as (skips o h) = absurd (false≢true o)

-- literals and the bracket that closes a clause
literals-closed : (ls : List LiteralTree) (modal : Bool) (es : List Expected) (ts : List Terminal) (ns : List ℕ) → Derives modal es ts ns → Derives modal (literals_rest 1 ∷ this a_closing 1 ∷ es) ((g.literals_tokens ls ++ close_round ∷ []) ++ ts) ((literals_nestings 1 ls ++ 1 ∷ []) ++ ns)
literals-closed ls modal es ts ns h =
    reassociated (g.literals_tokens ls) (close_round ∷ []) ts (literals_nestings 1 ls) (1 ∷ []) ns (literals-derive ls modal 1 (this a_closing 1 ∷ es) (close_round ∷ ts) (1 ∷ ns) (takes refl h))

-- behind the atom of a bracketed clause that begins with it
rest-closed : (ls : List LiteralTree) (modal : Bool) (es : List Expected) (ts : List Terminal) (ns : List ℕ) → Derives modal es ts ns → Derives modal (clause_rest ∷ es) ((g.literals_tokens ls ++ close_round ∷ []) ++ ts) ((literals_nestings 1 ls ++ 1 ∷ []) ++ ns)
rest-closed [] modal es ts ns h = takes refl (skips refl h)
rest-closed (l ∷ ls) modal es ts ns h =
    takes refl (shifted (g.literal_tokens l) (g.literals_tokens ls) (close_round ∷ []) ts (literal_nestings 1 l) (literals_nestings 1 ls) (1 ∷ []) ns
    (literal-derives l modal 1 (literals_rest 1 ∷ this a_closing 1 ∷ es) ((g.literals_tokens ls ++ close_round ∷ []) ++ ts) ((literals_nestings 1 ls ++ 1 ∷ []) ++ ns) (literals-closed ls modal es ts ns h)))

-- the first literal of a bracketed clause, the others and the bracket, bracketed as the tokens of a clause are
closing : {modal : Bool} {es : List Expected} (a : List Terminal) (ls : List LiteralTree) (ts : List Terminal) (k ns : List ℕ)
    → Derives modal es (a ++ ((g.literals_tokens ls ++ close_round ∷ []) ++ ts)) (k ++ ((literals_nestings 1 ls ++ 1 ∷ []) ++ ns))
    → Derives modal es ((a ++ g.literals_tokens ls ++ close_round ∷ []) ++ ts) ((k ++ literals_nestings 1 ls ++ 1 ∷ []) ++ ns)
closing {modal} {es} a ls ts k ns h = shifted a (g.literals_tokens ls) (close_round ∷ []) ts k (literals_nestings 1 ls) (1 ∷ []) ns h

pub clause-derives : (c : ClauseTree) (modal : Bool) (es : List Expected) (ts : List Terminal) (ns : List ℕ) → Derives modal es ts ns → Derives modal (clause ∷ es) (g.clause_tokens c ++ ts) (clause_nestings 0 c ++ ns)
clause-derives (g.bare (g.positive a) ls) modal es ts ns h =
    clause-as (reassociated (atom_tokens a) (g.literals_tokens ls) ts (atom_nestings 0 a) (literals_nestings 0 ls) ns
    (atom-derives a modal 0 (literals_rest 0 ∷ es) (g.literals_tokens ls ++ ts) (literals_nestings 0 ls ++ ns) (literals-derive ls modal 0 es ts ns h)))
clause-derives (g.bare (g.negative a) ls) modal es ts ns h =
    takes refl (reassociated (atom_tokens a) (g.literals_tokens ls) ts (atom_nestings 1 a) (literals_nestings 0 ls) ns
    (unsigned-as (atom-derives a modal 1 (literals_rest 0 ∷ es) (g.literals_tokens ls ++ ts) (literals_nestings 0 ls ++ ns) (literals-derive ls modal 0 es ts ns h))))
clause-derives (g.bare (g.positive_bracketed a) ls) modal es ts ns h =
    takes refl (clause_open-as (reassociated (atom_tokens a ++ close_round ∷ []) (g.literals_tokens ls) ts (atom_nestings 1 a ++ 1 ∷ []) (literals_nestings 0 ls) ns
    (reassociated (atom_tokens a) (close_round ∷ []) (g.literals_tokens ls ++ ts) (atom_nestings 1 a) (1 ∷ []) (literals_nestings 0 ls ++ ns)
    (atom-derives a modal 1 (clause_rest ∷ es) (close_round ∷ (g.literals_tokens ls ++ ts)) (1 ∷ (literals_nestings 0 ls ++ ns)) (takes refl (literals-derive ls modal 0 es ts ns h))))))
clause-derives (g.bare (g.negative_bracketed a) ls) modal es ts ns h =
    takes refl (takes refl (reassociated (atom_tokens a ++ close_round ∷ []) (g.literals_tokens ls) ts (atom_nestings 2 a ++ 2 ∷ []) (literals_nestings 0 ls) ns
    (bracketed-atom a modal 2 (literals_rest 0 ∷ es) (g.literals_tokens ls ++ ts) (literals_nestings 0 ls ++ ns) (literals-derive ls modal 0 es ts ns h))))
clause-derives (g.bracketed_clause (g.positive a) ls) modal es ts ns h =
    takes refl (clause_open-as (closing (atom_tokens a) ls ts (atom_nestings 1 a) ns (atom-derives a modal 1 (clause_rest ∷ es) ((g.literals_tokens ls ++ close_round ∷ []) ++ ts) ((literals_nestings 1 ls ++ 1 ∷ []) ++ ns) (rest-closed ls modal es ts ns h))))
clause-derives (g.bracketed_clause (g.negative a) ls) modal es ts ns h =
    takes refl (takes refl (closing (atom_tokens a) ls ts (atom_nestings 2 a) ns (unsigned-as (atom-derives a modal 2 (literals_rest 1 ∷ this a_closing 1 ∷ es) ((g.literals_tokens ls ++ close_round ∷ []) ++ ts) ((literals_nestings 1 ls ++ 1 ∷ []) ++ ns) (literals-closed ls modal es ts ns h)))))
clause-derives (g.bracketed_clause (g.positive_bracketed a) ls) modal es ts ns h =
    takes refl (takes refl (closing (atom_tokens a ++ close_round ∷ []) ls ts (atom_nestings 2 a ++ 2 ∷ []) ns (bracketed-atom a modal 2 (literals_rest 1 ∷ this a_closing 1 ∷ es) ((g.literals_tokens ls ++ close_round ∷ []) ++ ts) ((literals_nestings 1 ls ++ 1 ∷ []) ++ ns) (literals-closed ls modal es ts ns h))))
clause-derives (g.bracketed_clause (g.negative_bracketed a) ls) modal es ts ns h =
    takes refl (takes refl (takes refl (closing (atom_tokens a ++ close_round ∷ []) ls ts (atom_nestings 3 a ++ 3 ∷ []) ns (bracketed-atom a modal 3 (literals_rest 1 ∷ this a_closing 1 ∷ es) ((g.literals_tokens ls ++ close_round ∷ []) ++ ts) ((literals_nestings 1 ls ++ 1 ∷ []) ++ ns) (literals-closed ls modal es ts ns h)))))

-- ---- items

name-derives : (n : NameTree) (modal : Bool) (es : List Expected) (ts : List Terminal) (ns : List ℕ) → IsTrue (g.name_fits n) → Derives modal es ts ns → Derives modal (name ∷ es) (g.name_token n ∷ ts) (0 ∷ ns)
name-derives (g.word_name (plain w)) modal es ts ns p h = takes refl h
name-derives (g.word_name (in_quotes w)) modal es ts ns p h = takes refl h
name-derives (g.number_name ds) modal es ts ns p h = takes (ap (λ q. this_move q 0) p) h

-- notes, and the bracket that ends them
notes-derive : (xs : List Terminal) (waiting : List Bool) (modal : Bool) (es : List Expected) (ts : List Terminal) (ns : List ℕ) → IsTrue (g.closes waiting xs) → Derives modal es ts ns → Derives modal (notes waiting ∷ es) (xs ++ close_round ∷ ts) (all_at 0 xs ++ 0 ∷ ns)
notes-derive [] [] modal es ts ns p h = takes refl h
notes-derive [] (b ∷ waiting) modal es ts ns p h = absurd (false≢true p)
notes-derive (open_round ∷ xs) [] modal es ts ns p h = takes refl (notes-derive xs (true ∷ []) modal es ts ns p h)
notes-derive (open_square ∷ xs) [] modal es ts ns p h = takes refl (notes-derive xs (false ∷ []) modal es ts ns p h)
notes-derive (close_round ∷ xs) [] modal es ts ns p h = absurd (false≢true p)
notes-derive (close_square ∷ xs) [] modal es ts ns p h = absurd (false≢true p)
notes-derive (_ ∷ xs) [] modal es ts ns p h = takes refl (notes-derive xs [] modal es ts ns p h)
notes-derive (open_round ∷ xs) (b ∷ waiting) modal es ts ns p h = takes refl (notes-derive xs (true ∷ b ∷ waiting) modal es ts ns p h)
notes-derive (open_square ∷ xs) (b ∷ waiting) modal es ts ns p h = takes refl (notes-derive xs (false ∷ b ∷ waiting) modal es ts ns p h)
notes-derive (close_round ∷ xs) (true ∷ waiting) modal es ts ns p h = takes refl (notes-derive xs waiting modal es ts ns p h)
notes-derive (close_round ∷ xs) (false ∷ waiting) modal es ts ns p h = absurd (false≢true p)
notes-derive (close_square ∷ xs) (true ∷ waiting) modal es ts ns p h = absurd (false≢true p)
notes-derive (close_square ∷ xs) (false ∷ waiting) modal es ts ns p h = takes refl (notes-derive xs waiting modal es ts ns p h)
notes-derive (_ ∷ xs) (b ∷ waiting) modal es ts ns p h = takes refl (notes-derive xs (b ∷ waiting) modal es ts ns p h)

first-move : (x : Terminal) (xs : List Terminal) (r : ℕ × List Expected) → IsTrue (g.closes [] (x ∷ xs)) → notes_move [] x ≡ Some r → first_note_move x ≡ Some r
first-move close_round xs r p h = absurd (false≢true p)
first-move _ xs r p h = h

first-note : (x : Terminal) (xs : List Terminal) {modal : Bool} {es : List Expected} {ts : List Terminal} {ns : List ℕ} → IsTrue (g.closes [] (x ∷ xs)) → Derives modal (notes [] ∷ es) (x ∷ ts) ns → Derives modal (first_note ∷ es) (x ∷ ts) ns
first-note x xs p (takes {new = new} {n = n} m h) = takes (first-move x xs (n, new) p m) h
first-note x xs p (skips o h) = absurd (false≢true o)

pub all_at-append : {A : Type 0} (d : ℕ) (xs ys : List A) → all_at d (xs ++ ys) ≡ all_at d xs ++ all_at d ys
all_at-append d [] ys = refl
all_at-append d (x ∷ xs) ys = ap (λ t. d ∷ t) (all_at-append d xs ys)

-- what stands behind a formula, up to the item's end
tail-derives : (o : Option (List Terminal)) (modal : Bool) (es : List Expected) (ts : List Terminal) (ns : List ℕ) → IsTrue (g.notes_fit o) → Derives modal es ts ns → Derives modal (after_body ∷ this a_dot 0 ∷ es) ((g.notes_tokens o ++ g.end_tokens) ++ ts) (end_nestings o ++ ns)
tail-derives None modal es ts ns p h = takes refl (takes refl h)
tail-derives (Some []) modal es ts ns p h = absurd (false≢true p)
tail-derives (Some (x ∷ xs)) modal es ts ns p h =
    let k : Derives modal (first_note ∷ this a_dot 0 ∷ es) (x ∷ (xs ++ close_round ∷ dot ∷ ts)) (0 ∷ (all_at 0 xs ++ 0 ∷ 0 ∷ ns)) = first-note x xs p (notes-derive (x ∷ xs) [] modal (this a_dot 0 ∷ es) (dot ∷ ts) (0 ∷ ns) p (takes refl h)) in
    let a : (xs ++ close_round ∷ dot ∷ []) ++ ts ≡ xs ++ close_round ∷ dot ∷ ts = append_assoc xs (close_round ∷ dot ∷ []) ts in
    let b : all_at 0 (xs ++ close_round ∷ dot ∷ []) ++ ns ≡ all_at 0 xs ++ 0 ∷ 0 ∷ ns = ap (λ t. t ++ ns) (all_at-append 0 xs (close_round ∷ dot ∷ [])) ∙ append_assoc (all_at 0 xs) (0 ∷ 0 ∷ []) ns in
    takes refl (subst (λ t. Derives modal (first_note ∷ this a_dot 0 ∷ es) (x ∷ t) (0 ∷ (all_at 0 (xs ++ close_round ∷ dot ∷ []) ++ ns))) (sym a)
    (subst (λ q. Derives modal (first_note ∷ this a_dot 0 ∷ es) (x ∷ (xs ++ close_round ∷ dot ∷ ts)) (0 ∷ q)) (sym b) k))

-- a formula or clause and what stands behind it
bodied : {modal : Bool} {body : Expected} {es : List Expected} (o : Option (List Terminal)) (f : List Terminal) (k : List ℕ) (ts : List Terminal) (ns : List ℕ)
    → IsTrue (g.notes_fit o) → ((us : List Terminal) (ms : List ℕ) → Derives modal (after_body ∷ this a_dot 0 ∷ es) us ms → Derives modal (body ∷ after_body ∷ this a_dot 0 ∷ es) (f ++ us) (k ++ ms)) → Derives modal es ts ns
    → Derives modal (body ∷ after_body ∷ this a_dot 0 ∷ es) (((f ++ g.notes_tokens o) ++ g.end_tokens) ++ ts) ((k ++ end_nestings o) ++ ns)
bodied {modal} {body} {es} o f k ts ns p d h =
    subst (λ t. Derives modal (body ∷ after_body ∷ this a_dot 0 ∷ es) t ((k ++ end_nestings o) ++ ns)) (sym (shift f (g.notes_tokens o) g.end_tokens ts))
    (subst (λ q. Derives modal (body ∷ after_body ∷ this a_dot 0 ∷ es) (f ++ ((g.notes_tokens o ++ g.end_tokens) ++ ts)) q) (sym (append_assoc k (end_nestings o) ns))
    (d ((g.notes_tokens o ++ g.end_tokens) ++ ts) (end_nestings o ++ ns) (tail-derives o modal es ts ns p h)))

abbrev others_tokens : List NameTree → List Terminal
others_tokens xs = flat_map (λ m. comma ∷ g.name_token m ∷ []) xs

names-derive : (xs : List NameTree) (modal : Bool) (es : List Expected) (ts : List Terminal) (ns : List ℕ) → IsTrue (list_all g.name_fits xs) → Derives modal es ts ns
    → Derives modal (names_rest ∷ this a_dot 0 ∷ es) ((others_tokens xs ++ close_square ∷ g.end_tokens) ++ ts) (all_at 0 (others_tokens xs ++ close_square ∷ g.end_tokens) ++ ns)
names-derive [] modal es ts ns p h = takes refl (takes refl (takes refl h))
names-derive (x ∷ xs) modal es ts ns p h = let q = and_parts (g.name_fits x) (list_all g.name_fits xs) p in takes refl (name-derives x modal (names_rest ∷ this a_dot 0 ∷ es) _ _ q.0 (names-derive xs modal es ts ns q.1 h))

pub item-derives : (i : ItemTree) (modal : Bool) (es : List Expected) (ts : List Terminal) (ns : List ℕ) → IsTrue (g.item_fits modal i) → Derives modal (items ∷ es) ts ns → Derives modal (items ∷ es) (g.item_tokens i ++ ts) (item_nestings i ++ ns)
item-derives (g.fof n role f o) true es ts ns p h = absurd (false≢true p)
item-derives (g.fof n role f o) false es ts ns p h =
    let q = and_parts (g.name_fits n && g.is_plain f) (g.notes_fit o) p in
    let r = and_parts (g.name_fits n) (g.is_plain f) q.0 in
    takes refl (takes refl (name-derives n false _ _ _ r.0 (takes refl (takes refl (takes refl
    (bodied o (formula_tokens f) (formula_nestings 0 f) ts ns q.1 (λ us ms. formula-derives f false r.1 0 (after_body ∷ this a_dot 0 ∷ items ∷ es) us ms) h))))))
item-derives (g.qmf n role f o) false es ts ns p h = absurd (false≢true p)
item-derives (g.qmf n role f o) true es ts ns p h =
    let q = and_parts (g.name_fits n) (g.notes_fit o) p in
    takes refl (takes refl (name-derives n true _ _ _ q.0 (takes refl (takes refl (takes refl
    (bodied o (formula_tokens f) (formula_nestings 0 f) ts ns q.1 (λ us ms. formula-derives f true refl 0 (after_body ∷ this a_dot 0 ∷ items ∷ es) us ms) h))))))
item-derives (g.cnf n role c o) true es ts ns p h = absurd (false≢true p)
item-derives (g.cnf n role c o) false es ts ns p h =
    let q = and_parts (g.name_fits n) (g.notes_fit o) p in
    takes refl (takes refl (name-derives n false _ _ _ q.0 (takes refl (takes refl (takes refl
    (bodied o (g.clause_tokens c) (clause_nestings 0 c) ts ns q.1 (λ us ms. clause-derives c false (after_body ∷ this a_dot 0 ∷ items ∷ es) us ms) h))))))
item-derives (g.include file) modal es ts ns p h = takes refl (takes refl (takes refl (takes refl (takes refl h))))
item-derives (g.include_names file n xs) modal es ts ns p h =
    let q = and_parts (g.name_fits n) (list_all g.name_fits xs) p in
    takes refl (takes refl (takes refl (takes refl (takes refl (name-derives n modal _ _ _ q.0 (names-derive xs modal (items ∷ es) ts ns q.1 h))))))

pub text-derives : (is : List ItemTree) (modal : Bool) → IsTrue (list_all (g.item_fits modal) is) → Derives modal (items ∷ []) (g.text_tokens is) (text_nestings is)
text-derives [] modal p = skips refl ends
text-derives (i ∷ is) modal p = let q = and_parts (g.item_fits modal i) (list_all (g.item_fits modal) is) p in item-derives i modal [] (g.text_tokens is) (text_nestings is) q.0 (text-derives is modal q.1)
