-- The symbols of the formulas of a text that is read have names of name bytes.
use Rattle.std.proofs.Common.{◌≡◌, ◌≢◌, ◌||◌, ◌==◌, ◌+◌, ◌≤◌, ℕ, Bool, true, false, List, [], ◌∷◌, ◌++◌, length, map, Option, flat_map, drop, slice_range, refl, sym, ◌∙◌, subst, arith, IsTrue, if◌then◌else◌}
use Rattle.std.specs.Prelude.{codes}
use Rattle.std.specs.List.{list_all}
use Rattle.std.proofs.lemmas.Bool.{and_parts, and_from, false≢true}
use Rattle.std.proofs.lemmas.Bool.Decides.{nat_tests}
use Rattle.std.proofs.lemmas.List.{length-append}
use Rattle.std.proofs.lemmas.List.Folds.{list_all-append}
use Rattle.calculus.specs.Problems.{is_name, is_name_byte, symbol_fits}
use Rattle.calculus.specs.Syntax.{Symbol}
use Rattle.calculus.specs.Text.{escaped, is_lower, is_lower_word, is_word_byte}
use Rattle.tptp_lex.specs.declared.tokens.TokenKind.{TokenKind}
use Rattle.tptp_lex.specs.declared.tokens.TokenKind.TheVariants.{Lower, Quoted}
use Rattle.tptp_lex.specs.Tokens as lex
use Rattle.tptp_lex.specs.Tokens.{IsQuotable, IsToken}
use Rattle.tptp_reader.specs.declared.source.ChainKind.{ChainKind}
use Rattle.tptp_reader.specs.declared.source.ChainKind.TheVariants.{And, Or}
use Rattle.tptp_reader.specs.declared.source.BinaryKind.{BinaryKind}
use Rattle.tptp_reader.specs.declared.source.BinaryKind.TheVariants.{Imp, If, Iff, Xor, Nor, Nand}
use Rattle.tptp_reader.specs.Sources.{Source, Item}
use Rattle.tptp_reader.specs.Lists.{sources_tree}
use Rattle.tptp_reader.specs.Grammar as g
use Rattle.tptp_reader.specs.Grammar.{Word, word_token, TermTree, TermTrees, term_tokens, terms_tokens, AtomTree, atom_tokens, UnitTree, FormulaTree, UnitTrees, unit_tokens, formula_tokens, units_tokens, binary_token, variables_tokens, LiteralTree, literal_tokens, literals_tokens, ClauseTree, clause_tokens, ItemTree, item_tokens, text_tokens}
use Rattle.tptp_reader.specs.Meaning.{word_name, term_of, terms_of, atom_of, unit_of, source_of, units_of, literal_of, disjunction_of, clause_of, item_of, items_of}
use Rattle.tptp_reader.specs.Terminals as t
use Rattle.tptp_reader.specs.Terminals.{Terminal, kind_of_terminal, spelling, Placed, terminals, offsets, Follow, no_token, a_token}
use Rattle.tptp_reader.specs.Reading.{reads, IsReading}
use Rattle.problem_build.specs.Expansion.{binary_symbols, symbols_in, symbols_in_all, term_symbols, terms_symbols}
use Rattle.problem_build.specs.Passing.{item_passes}

-- ---- words

name-byte : (b : ℕ) → is_word_byte b ≡ true → is_name_byte b ≡ true
name-byte b h = grind (arith, nat_tests)

name-bytes : (bs : List ℕ) → IsTrue (list_all is_word_byte bs) → IsTrue (list_all is_name_byte bs)
name-bytes [] h = refl
name-bytes (b ∷ bs) h = let p = and_parts (is_word_byte b) (list_all is_word_byte bs) h in and_from (is_name_byte b) (list_all is_name_byte bs) (name-byte b p.0) (name-bytes bs p.1)

lower-byte : (b : ℕ) → is_lower b ≡ true → is_name_byte b ≡ true
lower-byte b h = grind (arith, nat_tests)

word-name : (w : List ℕ) → IsTrue (is_lower_word w) → IsTrue (is_name w)
word-name [] h = absurd (false≢true h)
word-name (b ∷ bs) h = let p = and_parts (is_lower b) (list_all is_word_byte bs) h in and_from (is_name_byte b) (list_all is_name_byte bs) (lower-byte b p.0) (name-bytes bs p.1)

quotable-bytes : (bs : List ℕ) → IsQuotable 39 bs → IsTrue (list_all is_name_byte bs)
quotable-bytes _ lex.nothing = refl
quotable-bytes _ (lex.a_byte b bs p q h r) = and_from (is_name_byte b) (list_all is_name_byte bs) h (quotable-bytes bs r)
quotable-bytes _ (lex.a_quote bs r) = quotable-bytes bs r
quotable-bytes _ (lex.a_backslash bs r) = quotable-bytes bs r

-- what stands behind an escape is the byte itself
unescaped : (w : List ℕ) → IsTrue (list_all is_name_byte (flat_map escaped w)) → IsTrue (list_all is_name_byte w)
unescaped [] h = refl
unescaped (b ∷ bs) h = by (b == 39 || b == 92) h (λ k. unescaped bs k)
  where
    by : (c : Bool) → IsTrue (list_all is_name_byte ((if c then 92 ∷ b ∷ [] else b ∷ []) ++ flat_map escaped bs)) → (IsTrue (list_all is_name_byte (flat_map escaped bs)) → IsTrue (list_all is_name_byte bs))
        → IsTrue (list_all is_name_byte (b ∷ bs))
    by true k next = let p = and_parts (is_name_byte b) (list_all is_name_byte (flat_map escaped bs)) k in and_from (is_name_byte b) (list_all is_name_byte bs) p.0 (next p.1)
    by false k next = let p = and_parts (is_name_byte b) (list_all is_name_byte (flat_map escaped bs)) k in and_from (is_name_byte b) (list_all is_name_byte bs) p.0 (next p.1)

lower-token : (k : TokenKind) (w : List ℕ) → IsToken k w → k ≡ Lower → IsTrue (is_lower_word w)
lower-token _ _ (lex.lower w h) e = h
lower-token _ _ (lex.upper w h) e = absurd (cc)
lower-token _ _ (lex.dollar w h) e = absurd (cc)
lower-token _ _ (lex.two_dollars w h) e = absurd (cc)
lower-token _ _ (lex.hash w h) e = absurd (cc)
lower-token _ _ (lex.quoted bs n h) e = absurd (cc)
lower-token _ _ (lex.distinct bs h) e = absurd (cc)
lower-token _ _ (lex.number s ds x h i j) e = absurd (cc)
lower-token _ _ (lex.sign w h) e = absurd (cc)

some-bytes : (bs : List ℕ) → bs ≢ [] → 1 ≤ length bs
some-bytes [] h = absurd (h refl)
some-bytes (b ∷ bs) h = omega arith

quoted-token : (k : TokenKind) (w : List ℕ) → IsToken k w → k ≡ Quoted → IsTrue (list_all is_name_byte w) × (3 ≤ length w)
quoted-token _ _ (lex.quoted bs n h) e = (
  list_all-append is_name_byte bs (39 ∷ []) ∙ and_from (list_all is_name_byte bs) true (quotable-bytes bs h) refl,
  (let m = some-bytes bs n in let l : length (bs ++ 39 ∷ []) ≡ length bs + 1 = length-append bs (39 ∷ []) in omega arith),
)
quoted-token _ _ (lex.lower w h) e = absurd (cc)
quoted-token _ _ (lex.upper w h) e = absurd (cc)
quoted-token _ _ (lex.dollar w h) e = absurd (cc)
quoted-token _ _ (lex.two_dollars w h) e = absurd (cc)
quoted-token _ _ (lex.hash w h) e = absurd (cc)
quoted-token _ _ (lex.distinct bs h) e = absurd (cc)
quoted-token _ _ (lex.number s ds x h i j) e = absurd (cc)
quoted-token _ _ (lex.sign w h) e = absurd (cc)

quoted-name : (w : List ℕ) → IsTrue (list_all is_name_byte (39 ∷ (flat_map escaped w ++ 39 ∷ []))) → 3 ≤ length (39 ∷ (flat_map escaped w ++ 39 ∷ [])) → IsTrue (is_name w)
quoted-name [] h l = absurd (omega arith)
quoted-name (b ∷ bs) h l =
    unescaped (b ∷ bs) (and_parts (list_all is_name_byte (flat_map escaped (b ∷ bs))) true (sym (list_all-append is_name_byte (flat_map escaped (b ∷ bs)) (39 ∷ [])) ∙ h)).0

-- ---- tokens

abbrev word_fits : Terminal → Bool
word_fits (t.lower w) = is_name w
word_fits (t.quoted w) = is_name w
word_fits _ = true

token-fits : (x : Terminal) → IsToken (kind_of_terminal x) (spelling x) → IsTrue (word_fits x)
token-fits (t.lower w) h = word-name w (lower-token Lower w h refl)
token-fits (t.quoted w) h = let q = quoted-token Quoted (spelling (t.quoted w)) h refl in quoted-name w q.0 q.1
token-fits (t.upper w) h = refl
token-fits (t.number w) h = refl
token-fits (t.distinct w) h = refl
token-fits (t.dollar w) h = refl
token-fits (t.hash w) h = refl
token-fits t.open_round h = refl
token-fits t.close_round h = refl
token-fits t.open_square h = refl
token-fits t.close_square h = refl
token-fits t.comma h = refl
token-fits t.dot h = refl
token-fits t.colon h = refl
token-fits t.tilde h = refl
token-fits t.exclamation h = refl
token-fits t.question h = refl
token-fits t.ampersand h = refl
token-fits t.bar h = refl
token-fits t.implies h = refl
token-fits t.implied h = refl
token-fits t.equivalent h = refl
token-fits t.inequivalent h = refl
token-fits t.nor h = refl
token-fits t.nand h = refl
token-fits t.equal h = refl
token-fits t.unequal h = refl

abbrev Fit : List Terminal → Type 0
Fit ts = IsTrue (list_all word_fits ts)

tokens-fit : (text : List ℕ) (from to : ℕ) (ps : List Placed) → Follow text from ps to → Fit (terminals ps)
tokens-fit text _ _ _ (no_token from) = refl
tokens-fit text _ _ _ (a_token from to token x ps next kind there rest) =
    and_from (word_fits x) (list_all word_fits (terminals ps))
    (token-fits x (subst (λ w. IsToken (kind_of_terminal x) w) there (subst (λ k. IsToken k (slice_range text token.start token.end)) kind next.is_token)))
    (tokens-fit text token.end to ps rest)

cut : (xs ys : List Terminal) → Fit (xs ++ ys) → Fit xs × Fit ys
cut xs ys h = and_parts (list_all word_fits xs) (list_all word_fits ys) (sym (list_all-append word_fits xs ys) ∙ h)

-- ---- symbols

abbrev All : List Symbol → Type 0
All ss = IsTrue (list_all symbol_fits ss)

join : (xs ys : List Symbol) → All xs → All ys → All (xs ++ ys)
join xs ys p q = list_all-append symbol_fits xs ys ∙ and_from (list_all symbol_fits xs) (list_all symbol_fits ys) p q

word-fits : (w : Word) → IsTrue (word_fits (word_token w)) → IsTrue (is_name (word_name w))
word-fits (g.plain w) h = h
word-fits (g.in_quotes w) h = h

first-word : (w : Word) (ts : List Terminal) → Fit (word_token w ∷ ts) → IsTrue (is_name (word_name w)) × Fit ts
first-word w ts h = let p = and_parts (word_fits (word_token w)) (list_all word_fits ts) h in (word-fits w p.0, p.1)

mutual
  term-names : (x : TermTree) → Fit (term_tokens x) → All (term_symbols (term_of x))
  term-names (g.variable x) h = refl
  term-names (g.constant w) h = and_from (is_name (word_name w)) true (first-word w [] h).0 refl
  term-names (g.application w x xs) h =
      let p = first-word w (t.open_round ∷ (term_tokens x ++ terms_tokens xs)) h in
      let q = cut (term_tokens x) (terms_tokens xs) p.1 in
      and_from (is_name (word_name w)) (list_all symbol_fits (term_symbols (term_of x) ++ terms_symbols (terms_of xs))) p.0 (join (term_symbols (term_of x)) (terms_symbols (terms_of xs)) (term-names x q.0) (terms-names xs q.1))

  terms-names : (xs : TermTrees) → Fit (terms_tokens xs) → All (terms_symbols (terms_of xs))
  terms-names g.no_terms h = refl
  terms-names (g.more_terms x xs) h =
      let q = cut (term_tokens x) (terms_tokens xs) h in join (term_symbols (term_of x)) (terms_symbols (terms_of xs)) (term-names x q.0) (terms-names xs q.1)

atom-names : (a : AtomTree) → Fit (atom_tokens a) → All (symbols_in (atom_of a))
atom-names g.truth h = refl
atom-names g.falsity h = refl
atom-names (g.proposition w) h = and_from (is_name (word_name w)) true (first-word w [] h).0 refl
atom-names (g.predication w x xs) h =
    let p = first-word w (t.open_round ∷ (term_tokens x ++ terms_tokens xs)) h in
    let q = cut (term_tokens x) (terms_tokens xs) p.1 in
    and_from (is_name (word_name w)) (list_all symbol_fits (term_symbols (term_of x) ++ terms_symbols (terms_of xs))) p.0 (join (term_symbols (term_of x)) (terms_symbols (terms_of xs)) (term-names x q.0) (terms-names xs q.1))
atom-names (g.equation x y) h =
    let q = cut (term_tokens x) (t.equal ∷ term_tokens y) h in join (term_symbols (term_of x)) (term_symbols (term_of y)) (term-names x q.0) (term-names y q.1)
atom-names (g.disequation x y) h =
    let q = cut (term_tokens x) (t.unequal ∷ term_tokens y) h in join (term_symbols (term_of x)) (term_symbols (term_of y)) (term-names x q.0) (term-names y q.1)

binary-cut : (c : BinaryKind) (ys : List Terminal) → Fit (binary_token c ∷ ys) → Fit ys
binary-cut Imp ys h = h
binary-cut If ys h = h
binary-cut Iff ys h = h
binary-cut Xor ys h = h
binary-cut Nor ys h = h
binary-cut Nand ys h = h

binary-join : (c : BinaryKind) (xs ys : List Symbol) → All xs → All ys → All (binary_symbols c xs ys)
binary-join Imp xs ys p q = join xs ys p q
binary-join If xs ys p q = join ys xs q p
binary-join Iff xs ys p q = join xs ys p q
binary-join Xor xs ys p q = join xs ys p q
binary-join Nor xs ys p q = join xs ys p q
binary-join Nand xs ys p q = join xs ys p q

chain-cut : (c : ChainKind) (ys : List Terminal) → Fit (g.chain_token c ∷ ys) → Fit ys
chain-cut And ys h = h
chain-cut Or ys h = h

mutual
  unit-names : (u : UnitTree) → Fit (unit_tokens u) → All (symbols_in (unit_of u))
  unit-names (g.bracketed f) h = source-names f (cut (formula_tokens f) (t.close_round ∷ []) h).0
  unit-names (g.negation u) h = unit-names u h
  unit-names (g.quantified g.universal x xs u) h = unit-names u (cut (variables_tokens xs) (unit_tokens u) h).1
  unit-names (g.quantified g.existential x xs u) h = unit-names u (cut (variables_tokens xs) (unit_tokens u) h).1
  unit-names (g.under_modality g.necessity u) h = unit-names u h
  unit-names (g.under_modality g.possibility u) h = unit-names u h
  unit-names (g.atomic a) h = atom-names a h

  source-names : (f : FormulaTree) → Fit (formula_tokens f) → All (symbols_in (source_of f))
  source-names (g.single u) h = unit-names u h
  source-names (g.chain c u v us) h =
      let p = cut (unit_tokens u) (g.chain_token c ∷ (unit_tokens v ++ units_tokens c us)) h in
      let q = cut (unit_tokens v) (units_tokens c us) (chain-cut c (unit_tokens v ++ units_tokens c us) p.1) in
      join (symbols_in (unit_of u)) (symbols_in (unit_of v) ++ symbols_in_all (units_of us)) (unit-names u p.0) (join (symbols_in (unit_of v)) (symbols_in_all (units_of us)) (unit-names v q.0) (units-names us c q.1))
  source-names (g.binary c u v) h =
      let p = cut (unit_tokens u) (binary_token c ∷ unit_tokens v) h in
      binary-join c (symbols_in (unit_of u)) (symbols_in (unit_of v)) (unit-names u p.0) (unit-names v (binary-cut c (unit_tokens v) p.1))

  units-names : (us : UnitTrees) (c : ChainKind) → Fit (units_tokens c us) → All (symbols_in_all (units_of us))
  units-names g.no_units c h = refl
  units-names (g.more_units u us) c h =
      let q = cut (unit_tokens u) (units_tokens c us) (chain-cut c (unit_tokens u ++ units_tokens c us) h) in
      join (symbols_in (unit_of u)) (symbols_in_all (units_of us)) (unit-names u q.0) (units-names us c q.1)

literal-names : (l : LiteralTree) → Fit (literal_tokens l) → All (symbols_in (literal_of l))
literal-names (g.positive a) h = atom-names a h
literal-names (g.negative a) h = atom-names a h
literal-names (g.positive_bracketed a) h = atom-names a (cut (atom_tokens a) (t.close_round ∷ []) h).0
literal-names (g.negative_bracketed a) h = atom-names a (cut (atom_tokens a) (t.close_round ∷ []) h).0

literals-names : (ls : List LiteralTree) → Fit (literals_tokens ls) → All (symbols_in_all (sources_tree (map literal_of ls)))
literals-names [] h = refl
literals-names (l ∷ ls) h =
    let q = cut (literal_tokens l) (literals_tokens ls) h in join (symbols_in (literal_of l)) (symbols_in_all (sources_tree (map literal_of ls))) (literal-names l q.0) (literals-names ls q.1)

disjunction-names : (l : LiteralTree) (ls : List LiteralTree) → Fit (literal_tokens l) → Fit (literals_tokens ls) → All (symbols_in (disjunction_of l ls))
disjunction-names l [] h k = literal-names l h
disjunction-names l (m ∷ ms) h k = join (symbols_in (literal_of l)) (symbols_in_all (sources_tree (map literal_of (m ∷ ms)))) (literal-names l h) (literals-names (m ∷ ms) k)

clause-names : (c : ClauseTree) → Fit (clause_tokens c) → All (symbols_in (clause_of c))
clause-names (g.bare l ls) h = let q = cut (literal_tokens l) (literals_tokens ls) h in disjunction-names l ls q.0 q.1
clause-names (g.bracketed_clause l ls) h =
    let p = cut (literal_tokens l ++ literals_tokens ls) (t.close_round ∷ []) h in
    let q = cut (literal_tokens l) (literals_tokens ls) p.0 in disjunction-names l ls q.0 q.1

-- ---- items

-- the symbols of a formula fit
abbrev pub names_fit : Source → Bool
names_fit a = list_all symbol_fits (symbols_in a)

-- what stands behind the head of an item, before its notes and its end
inner-tokens : (language role : List ℕ) (n : g.NameTree) (ts : List Terminal) (o : Option (List Terminal)) → Fit (g.head_tokens language n role ++ ts ++ g.notes_tokens o ++ g.end_tokens) → Fit ts
inner-tokens language role n ts o h =
    (cut ts (g.notes_tokens o) (cut (ts ++ g.notes_tokens o) g.end_tokens (cut (g.head_tokens language n role) (ts ++ g.notes_tokens o ++ g.end_tokens) h).1).0).0

item-names : (places : List ℕ) (i : ItemTree) → Fit (item_tokens i) → IsTrue (item_passes names_fit (item_of places i))
item-names places (g.fof n r f o) h = source-names f (inner-tokens (codes "fof") r n (formula_tokens f) o h)
item-names places (g.qmf n r f o) h = source-names f (inner-tokens (codes "qmf") r n (formula_tokens f) o h)
item-names places (g.cnf n r c o) h = clause-names c (inner-tokens (codes "cnf") r n (clause_tokens c) o h)
item-names places (g.include file) h = refl
item-names places (g.include_names file n ns) h = refl

items-names : (is : List ItemTree) (places : List ℕ) → Fit (text_tokens is) → IsTrue (list_all (item_passes names_fit) (items_of places is))
items-names [] places h = refl
items-names (i ∷ is) places h =
    let p = cut (item_tokens i) (text_tokens is) h in
    and_from (item_passes names_fit (item_of places i)) (list_all (item_passes names_fit) (items_of (drop (length (item_tokens i)) places) is))
    (item-names places i p.0) (items-names is (drop (length (item_tokens i)) places) p.1)

-- The names of the symbols of a text are names.
pub read-names : (m : Bool) (text : List ℕ) (items : List Item) → IsReading m text (reads items) → IsTrue (list_all (item_passes names_fit) items)
read-names m text items h =
    subst (λ is. IsTrue (list_all (item_passes names_fit) is)) (sym h.meant)
    (items-names h.trees (offsets h.tokens) (subst (λ ts. Fit ts) h.written (tokens-fit text 0 h.to h.tokens h.there)))
