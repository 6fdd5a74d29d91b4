-- A text has no more names than bytes, so what is counted by names keeps within 32 bits.
use Rattle.std.proofs.Common.{◌≡◌, ◌+◌, ◌<◌, ◌≤◌, ℕ, zero, suc, Bool, true, false, List, [], ◌∷◌, ◌++◌, length, map, drop, get_or, slice_get, Option, Some, refl, sym, ◌∙◌, ap, subst, arith, IsTrue, if◌then◌else◌}
use Rattle.std.specs.Prelude.{codes, nat_le}
use Rattle.std.specs.List.{filter, list_all, list_any}
use Rattle.std.proofs.lemmas.Bool.{and_parts, and_from, le-leb, leb-true}
use Rattle.std.proofs.lemmas.List.{length-append}
use Rattle.std.proofs.lemmas.List.Folds.{list_all-append}
use Rattle.calculus.specs.Syntax.{Symbol}
use Rattle.tptp_reader.specs.declared.source.ChainKind.{ChainKind}
use Rattle.tptp_reader.specs.declared.source.BinaryKind.{BinaryKind}
use Rattle.tptp_reader.specs.declared.source.BinaryKind.TheVariants.{Imp, If, Iff, Xor, Nor, Nand}
use Rattle.tptp_reader.specs.declared.source.SourceTerm as program
use Rattle.tptp_reader.specs.declared.source.Source as written
use Rattle.tptp_reader.specs.TermView.{the_source_term}
use Rattle.tptp_reader.specs.SourceView.{the_source}
use Rattle.tptp_reader.specs.Lists.{sources_tree}
use Rattle.tptp_reader.specs.Grammar as g
use Rattle.tptp_reader.specs.Grammar.{TermTree, TermTrees, term_tokens, terms_tokens, AtomTree, atom_tokens, UnitTree, FormulaTree, UnitTrees, unit_tokens, formula_tokens, units_tokens, variables_tokens, LiteralTree, literal_tokens, literals_tokens, ClauseTree, clause_tokens, ItemTree, item_tokens, text_tokens}
use Rattle.tptp_reader.specs.Meaning.{term_of, terms_of, atom_of, unit_of, source_of, units_of, literal_of, disjunction_of, clause_of, item_of, items_of}
use Rattle.tptp_reader.specs.Reading.{reads, IsReading}
use Rattle.tptp_reader.specs.Sources.{Name, SourceTerm, variable, apply, SourceTerms, no_terms, more_terms, Source, atom, truth, falsity, equal, unequal, not, chain, binary, for_all, exists, nec, poss, Sources, no_sources, more_sources, Item}
use Rattle.tptp_reader.specs.Terminals as t
use Rattle.tptp_reader.specs.Terminals.{Terminal, Placed, terminals, offsets, Follow, no_token, a_token}
use Rattle.problem_build.specs.declared.passed.Passed as passed
use Rattle.problem_build.specs.Building.{symbols_of}
use Rattle.problem_build.specs.Expansion.{argument_count, binary_symbols, first_seen, free_in, free_in_all, free_variables, same_name, symbols_in, symbols_in_all, term_symbols, terms_symbols, unbound, variables_in, variables_in_all}
use Rattle.problem_build.specs.Measuring.{bodies}
use Rattle.problem_build.specs.NameCount.{is_narrow, is_short, name_count, source_list_name_count, sources_name_count, term_list_name_count, term_name_count, terms_name_count}
use Rattle.problem_build.specs.Passing.{AreRead, item_passes, the_passed}
use Rattle.problem_build.specs.Walk.{Passed}
use Rattle.problem_build.proofs.FittingLaws.{seen-all}
use Rattle.problem_build.proofs.ItemLaws.{listed}

-- ---- tokens

-- each token takes a byte
follow-few : (text : List ℕ) (from to : ℕ) (ps : List Placed) → Follow text from ps to → from ≤ length text → length (terminals ps) + from ≤ length text
follow-few text _ _ _ (no_token from) h = omega arith
follow-few text _ _ _ (a_token from to token x ps next kind there rest) h =
    let k = follow-few text token.end to ps rest next.within in omega (arith, k, next.onward, next.not_empty)

mutual
  term-few : (x : TermTree) → term_name_count (term_of x) ≤ length (term_tokens x)
  term-few (g.variable x) = omega arith
  term-few (g.constant w) = omega arith
  term-few (g.application w x xs) = omega (arith, length-append (term_tokens x) (terms_tokens xs), term-few x, terms-few xs)

  terms-few : (xs : TermTrees) → terms_name_count (terms_of xs) ≤ length (terms_tokens xs)
  terms-few g.no_terms = omega arith
  terms-few (g.more_terms x xs) = omega (arith, length-append (term_tokens x) (terms_tokens xs), term-few x, terms-few xs)

atom-few : (a : AtomTree) → name_count (atom_of a) ≤ length (atom_tokens a)
atom-few g.truth = omega arith
atom-few g.falsity = omega arith
atom-few (g.proposition w) = omega arith
atom-few (g.predication w x xs) = omega (arith, length-append (term_tokens x) (terms_tokens xs), term-few x, terms-few xs)
atom-few (g.equation x y) = omega (arith, length-append (term_tokens x) (t.equal ∷ term_tokens y), term-few x, term-few y)
atom-few (g.disequation x y) = omega (arith, length-append (term_tokens x) (t.unequal ∷ term_tokens y), term-few x, term-few y)

variables-few : (xs : List Name) → length xs ≤ length (variables_tokens xs)
variables-few [] = omega arith
variables-few (x ∷ xs) = let h = variables-few xs in omega arith

mutual
  unit-few : (u : UnitTree) → name_count (unit_of u) ≤ length (unit_tokens u)
  unit-few (g.bracketed f) = omega (arith, length-append (formula_tokens f) (t.close_round ∷ []), source-few f)
  unit-few (g.negation u) = let h = unit-few u in omega arith
  unit-few (g.quantified g.universal x xs u) = omega (arith, length-append (variables_tokens xs) (unit_tokens u), variables-few xs, unit-few u)
  unit-few (g.quantified g.existential x xs u) = omega (arith, length-append (variables_tokens xs) (unit_tokens u), variables-few xs, unit-few u)
  unit-few (g.under_modality g.necessity u) = let h = unit-few u in omega arith
  unit-few (g.under_modality g.possibility u) = let h = unit-few u in omega arith
  unit-few (g.atomic a) = atom-few a

  source-few : (f : FormulaTree) → name_count (source_of f) ≤ length (formula_tokens f)
  source-few (g.single u) = unit-few u
  source-few (g.chain c u v us) =
      omega (arith, length-append (unit_tokens u) (g.chain_token c ∷ (unit_tokens v ++ units_tokens c us)), length-append (unit_tokens v) (units_tokens c us), unit-few u, unit-few v, units-few us c)
  source-few (g.binary c u v) = omega (arith, length-append (unit_tokens u) (g.binary_token c ∷ unit_tokens v), unit-few u, unit-few v)

  units-few : (us : UnitTrees) (c : ChainKind) → sources_name_count (units_of us) ≤ length (units_tokens c us)
  units-few g.no_units c = omega arith
  units-few (g.more_units u us) c = omega (arith, length-append (unit_tokens u) (units_tokens c us), unit-few u, units-few us c)

literal-few : (l : LiteralTree) → name_count (literal_of l) ≤ length (literal_tokens l)
literal-few (g.positive a) = atom-few a
literal-few (g.negative a) = let h = atom-few a in omega arith
literal-few (g.positive_bracketed a) = omega (arith, length-append (atom_tokens a) (t.close_round ∷ []), atom-few a)
literal-few (g.negative_bracketed a) = omega (arith, length-append (atom_tokens a) (t.close_round ∷ []), atom-few a)

literals-few : (ls : List LiteralTree) → sources_name_count (sources_tree (map literal_of ls)) ≤ length (literals_tokens ls)
literals-few [] = omega arith
literals-few (l ∷ ls) = omega (arith, length-append (t.bar ∷ literal_tokens l) (literals_tokens ls), literal-few l, literals-few ls)

disjunction-few : (l : LiteralTree) (ls : List LiteralTree) → name_count (disjunction_of l ls) ≤ length (literal_tokens l) + length (literals_tokens ls)
disjunction-few l [] = let h = literal-few l in omega arith
disjunction-few l (m ∷ ms) = let h = literal-few l in let k = literals-few (m ∷ ms) in omega arith

clause-few : (c : ClauseTree) → name_count (clause_of c) ≤ length (clause_tokens c)
clause-few (g.bare l ls) = omega (arith, length-append (literal_tokens l) (literals_tokens ls), disjunction-few l ls)
clause-few (g.bracketed_clause l ls) =
    omega (arith, length-append (literal_tokens l ++ literals_tokens ls) (t.close_round ∷ []), length-append (literal_tokens l) (literals_tokens ls), disjunction-few l ls)

-- what stands between the head of an item and its notes
inner-few : (a b c d : List Terminal) → length b ≤ length (a ++ b ++ c ++ d)
inner-few a b c d = omega (arith, length-append (a ++ b ++ c) d, length-append (a ++ b) c, length-append a b)

body-short : (language role : List ℕ) (n : g.NameTree) (ts : List Terminal) (o : Option (List Terminal)) (a : Source) → name_count a ≤ length ts
    → length (g.head_tokens language n role ++ ts ++ g.notes_tokens o ++ g.end_tokens) ≤ 16777216 → IsTrue (is_short a)
body-short language role n ts o a h k =
    let i : length ts ≤ length (g.head_tokens language n role ++ ts ++ g.notes_tokens o ++ g.end_tokens) = inner-few (g.head_tokens language n role) ts (g.notes_tokens o) g.end_tokens in
    le-leb (name_count a) 16777216 (within (name_count a) (length ts) (length (g.head_tokens language n role ++ ts ++ g.notes_tokens o ++ g.end_tokens)) h i k)
  where
    within : (a b c : ℕ) → a ≤ b → b ≤ c → c ≤ 16777216 → a ≤ 16777216
    within a b c h i k = omega arith

item-short : (places : List ℕ) (i : ItemTree) → length (item_tokens i) ≤ 16777216 → IsTrue (item_passes is_short (item_of places i))
item-short places (g.fof n r f o) h = body-short (codes "fof") r n (formula_tokens f) o (source_of f) (source-few f) h
item-short places (g.qmf n r f o) h = body-short (codes "qmf") r n (formula_tokens f) o (source_of f) (source-few f) h
item-short places (g.cnf n r c o) h = body-short (codes "cnf") r n (clause_tokens c) o (clause_of c) (clause-few c) h
item-short places (g.include file) h = refl
item-short places (g.include_names file n ns) h = refl

items-short : (is : List ItemTree) (places : List ℕ) → length (text_tokens is) ≤ 16777216 → IsTrue (list_all (item_passes is_short) (items_of places is))
items-short [] places h = refl
items-short (i ∷ is) places h =
    let l : length (item_tokens i ++ text_tokens is) ≡ length (item_tokens i) + length (text_tokens is) = length-append (item_tokens i) (text_tokens is) in
    and_from (item_passes is_short (item_of places i)) (list_all (item_passes is_short) (items_of (drop (length (item_tokens i)) places) is))
    (item-short places i (first (length (item_tokens i)) (length (text_tokens is)) (length (text_tokens (i ∷ is))) l h))
    (items-short is (drop (length (item_tokens i)) places) (others (length (item_tokens i)) (length (text_tokens is)) (length (text_tokens (i ∷ is))) l h))
  where
    first : (a b c : ℕ) → c ≡ a + b → c ≤ 16777216 → a ≤ 16777216
    first a b c e h = omega arith

    others : (a b c : ℕ) → c ≡ a + b → c ≤ 16777216 → b ≤ 16777216
    others a b c e h = omega arith

-- The formulas of a text of at most 16 MiB have at most so many names.
pub read-short : (m : Bool) (text : List ℕ) (items : List Item) → length text ≤ 16777216 → IsReading m text (reads items) → IsTrue (list_all (item_passes is_short) items)
read-short m text items l h =
    let n : length (terminals h.tokens) + 0 ≤ length text = follow-few text 0 h.to h.tokens h.there (omega arith) in
    let e : length (terminals h.tokens) ≡ length (text_tokens h.trees) = ap length h.written in
    subst (λ is. IsTrue (list_all (item_passes is_short) is)) (sym h.meant)
    (items-short h.trees (offsets h.tokens) (within (length (terminals h.tokens)) (length (text_tokens h.trees)) (length text) n e l))
  where
    within : (a b c : ℕ) → a + 0 ≤ c → a ≡ b → c ≤ 16777216 → b ≤ 16777216
    within a b c n e l = omega arith

-- ---- arguments

pub term-some : (x : SourceTerm) → 1 ≤ term_name_count x
term-some (variable x) = omega arith
term-some (apply f xs) = omega arith

pub arguments-few : (xs : SourceTerms) → argument_count xs ≤ terms_name_count xs
arguments-few no_terms = omega arith
arguments-few (more_terms x xs) = omega (arith, term-some x, arguments-few xs)

narrow : (a b : ℕ) → a ≤ b → b ≤ 16777216 → IsTrue (nat_le a 2147483647)
narrow a b h k = le-leb a 2147483647 (omega arith)

abbrev All : List Symbol → Type 0
All ss = IsTrue (list_all is_narrow ss)

join : (xs ys : List Symbol) → All xs → All ys → All (xs ++ ys)
join xs ys p q = list_all-append is_narrow xs ys ∙ and_from (list_all is_narrow xs) (list_all is_narrow ys) p q

left-few : (a b : ℕ) → a + b ≤ 16777216 → a ≤ 16777216
left-few a b h = omega arith

right-few : (a b : ℕ) → a + b ≤ 16777216 → b ≤ 16777216
right-few a b h = omega arith

mutual
  term-narrow : (x : SourceTerm) → term_name_count x ≤ 16777216 → All (term_symbols x)
  term-narrow (variable x) h = refl
  term-narrow (apply f xs) h =
      let k : terms_name_count xs ≤ 16777216 = omega arith in
      and_from (nat_le (argument_count xs) 2147483647) (list_all is_narrow (terms_symbols xs)) (narrow (argument_count xs) (terms_name_count xs) (arguments-few xs) k) (terms-narrow xs k)

  terms-narrow : (xs : SourceTerms) → terms_name_count xs ≤ 16777216 → All (terms_symbols xs)
  terms-narrow no_terms h = refl
  terms-narrow (more_terms x xs) h =
      join (term_symbols x) (terms_symbols xs) (term-narrow x (left-few (term_name_count x) (terms_name_count xs) h)) (terms-narrow xs (right-few (term_name_count x) (terms_name_count xs) h))

two-narrow : (x y : SourceTerm) → term_name_count x + term_name_count y ≤ 16777216 → All (term_symbols x ++ term_symbols y)
two-narrow x y h =
    join (term_symbols x) (term_symbols y) (term-narrow x (left-few (term_name_count x) (term_name_count y) h)) (term-narrow y (right-few (term_name_count x) (term_name_count y) h))

binary-join : (c : BinaryKind) (xs ys : List Symbol) → All xs → All ys → All (binary_symbols c xs ys)
binary-join Imp xs ys p q = join xs ys p q
binary-join If xs ys p q = join ys xs q p
binary-join Iff xs ys p q = join xs ys p q
binary-join Xor xs ys p q = join xs ys p q
binary-join Nor xs ys p q = join xs ys p q
binary-join Nand xs ys p q = join xs ys p q

mutual
  source-narrow : (a : Source) → name_count a ≤ 16777216 → All (symbols_in a)
  source-narrow (atom p xs) h =
      let k : terms_name_count xs ≤ 16777216 = omega arith in
      and_from (nat_le (argument_count xs) 2147483647) (list_all is_narrow (terms_symbols xs)) (narrow (argument_count xs) (terms_name_count xs) (arguments-few xs) k) (terms-narrow xs k)
  source-narrow truth h = refl
  source-narrow falsity h = refl
  source-narrow (equal x y) h = two-narrow x y h
  source-narrow (unequal x y) h = two-narrow x y h
  source-narrow (not a) h = source-narrow a h
  source-narrow (chain c bs) h = sources-narrow bs h
  source-narrow (binary c a b) h =
      binary-join c (symbols_in a) (symbols_in b) (source-narrow a (left-few (name_count a) (name_count b) h)) (source-narrow b (right-few (name_count a) (name_count b) h))
  source-narrow (for_all xs a) h = source-narrow a (right-few (length xs) (name_count a) h)
  source-narrow (exists xs a) h = source-narrow a (right-few (length xs) (name_count a) h)
  source-narrow (nec a) h = source-narrow a h
  source-narrow (poss a) h = source-narrow a h

  sources-narrow : (bs : Sources) → sources_name_count bs ≤ 16777216 → All (symbols_in_all bs)
  sources-narrow no_sources h = refl
  sources-narrow (more_sources a bs) h =
      join (symbols_in a) (symbols_in_all bs) (source-narrow a (left-few (name_count a) (sources_name_count bs) h)) (sources-narrow bs (right-few (name_count a) (sources_name_count bs) h))

-- ---- free variables

unbound-few : (bound xs : List Name) → length (unbound bound xs) ≤ length xs
unbound-few bound [] = omega arith
unbound-few bound (x ∷ xs) = by (list_any (same_name x) bound) (unbound-few bound xs)
  where
    by : (b : Bool) → length (unbound bound xs) ≤ length xs → length (if b then unbound bound xs else x ∷ unbound bound xs) ≤ suc (length xs)
    by true h = omega arith
    by false h = omega arith

seen-few : {A : Type 0} (same : A → A → Bool) (known xs : List A) → length (first_seen same known xs) ≤ length xs
seen-few same known [] = omega arith
seen-few same known (x ∷ xs) = by (list_any (same x) known) (seen-few same known xs) (seen-few same (known ++ x ∷ []) xs)
  where
    by : (b : Bool) → length (first_seen same known xs) ≤ length xs → length (first_seen same (known ++ x ∷ []) xs) ≤ length xs
        → length (if b then first_seen same known xs else x ∷ first_seen same (known ++ x ∷ []) xs) ≤ suc (length xs)
    by true h k = omega arith
    by false h k = omega arith

mutual
  variables-in_few : (x : SourceTerm) → length (variables_in x) ≤ term_name_count x
  variables-in_few (variable x) = omega arith
  variables-in_few (apply f xs) = let h = variables-in_all_few xs in omega arith

  variables-in_all_few : (xs : SourceTerms) → length (variables_in_all xs) ≤ terms_name_count xs
  variables-in_all_few no_terms = omega arith
  variables-in_all_few (more_terms x xs) = omega (arith, length-append (variables_in x) (variables_in_all xs), variables-in_few x, variables-in_all_few xs)

two-few : (bound : List Name) (x y : SourceTerm) → length (unbound bound (variables_in x ++ variables_in y)) ≤ term_name_count x + term_name_count y
two-few bound x y = omega (arith, unbound-few bound (variables_in x ++ variables_in y), length-append (variables_in x) (variables_in y), variables-in_few x, variables-in_few y)

mutual
  free-in_few : (a : Source) (bound : List Name) → length (free_in bound a) ≤ name_count a
  free-in_few (atom p xs) bound = omega (arith, unbound-few bound (variables_in_all xs), variables-in_all_few xs)
  free-in_few truth bound = omega arith
  free-in_few falsity bound = omega arith
  free-in_few (equal x y) bound = two-few bound x y
  free-in_few (unequal x y) bound = two-few bound x y
  free-in_few (not a) bound = free-in_few a bound
  free-in_few (chain c bs) bound = free-in_all_few bs bound
  free-in_few (binary c a b) bound = omega (arith, length-append (free_in bound a) (free_in bound b), free-in_few a bound, free-in_few b bound)
  free-in_few (for_all xs a) bound = let h = free-in_few a (bound ++ xs) in omega arith
  free-in_few (exists xs a) bound = let h = free-in_few a (bound ++ xs) in omega arith
  free-in_few (nec a) bound = free-in_few a bound
  free-in_few (poss a) bound = free-in_few a bound

  free-in_all_few : (bs : Sources) (bound : List Name) → length (free_in_all bound bs) ≤ sources_name_count bs
  free-in_all_few no_sources bound = omega arith
  free-in_all_few (more_sources a bs) bound = omega (arith, length-append (free_in bound a) (free_in_all bound bs), free-in_few a bound, free-in_all_few bs bound)

pub free-few : (a : Source) → length (free_variables a) ≤ name_count a
free-few a = omega (arith, seen-few same_name [] (free_in [] a), free-in_few a [])

-- ---- items of lists

pub term-counted : (xs : List program.SourceTerm) (k : ℕ) (x d : program.SourceTerm) → k < length xs → x ≡ get_or xs k d
    → term_name_count (the_source_term x) ≤ term_list_name_count (map the_source_term xs)
term-counted [] k x d h e = absurd (omega arith)
term-counted (y ∷ ys) zero x d h e = let f : term_name_count (the_source_term x) ≡ term_name_count (the_source_term y) = ap (λ z. term_name_count (the_source_term z)) e in omega arith
term-counted (y ∷ ys) (suc k) x d h e = let f = term-counted ys k x d (omega arith) e in omega arith

pub source-counted : (xs : List written.Source) (k : ℕ) (x d : written.Source) → k < length xs → x ≡ get_or xs k d
    → name_count (the_source x) ≤ source_list_name_count (map the_source xs)
source-counted [] k x d h e = absurd (omega arith)
source-counted (y ∷ ys) zero x d h e = let f : name_count (the_source x) ≡ name_count (the_source y) = ap (λ z. name_count (the_source z)) e in omega arith
source-counted (y ∷ ys) (suc k) x d h e = let f = source-counted ys k x d (omega arith) e in omega arith

pub ruleset counted = (term-counted, source-counted)

pub short-item : (xs : List written.Source) (k : ℕ) (x d : written.Source) → k < length xs → x ≡ get_or xs k d → IsTrue (list_all is_short (map the_source xs))
    → name_count (the_source x) ≤ 16777216
short-item [] k x d h e s = absurd (omega arith)
short-item (y ∷ ys) zero x d h e s =
    leb-true (name_count (the_source x)) 16777216 (ap (λ z. is_short (the_source z)) e ∙ (and_parts (is_short (the_source y)) (list_all is_short (map the_source ys)) s).0)
short-item (y ∷ ys) (suc k) x d h e s = short-item ys k x d (omega arith) e (and_parts (is_short (the_source y)) (list_all is_short (map the_source ys)) s).1

pub short-passed : (xs : List passed.Passed) (k : ℕ) (x d : passed.Passed) → k < length xs → x ≡ get_or xs k d → IsTrue (list_all (λ (p : Passed). is_short p.body) (map the_passed xs))
    → name_count (the_source x.body) ≤ 16777216
short-passed [] k x d h e s = absurd (omega arith)
short-passed (y ∷ ys) zero x d h e s =
    leb-true (name_count (the_source x.body)) 16777216
    (ap (λ (z : passed.Passed). is_short (the_source z.body)) e ∙ (and_parts (is_short (the_source y.body)) (list_all (λ (p : Passed). is_short p.body) (map the_passed ys)) s).0)
short-passed (y ∷ ys) (suc k) x d h e s =
    short-passed ys k x d (omega arith) e (and_parts (is_short (the_source y.body)) (list_all (λ (p : Passed). is_short p.body) (map the_passed ys)) s).1

pub narrow-item : (ss : List Symbol) (k : ℕ) (s : Symbol) → slice_get ss k ≡ Some s → IsTrue (list_all is_narrow ss) → s.arity ≤ 2147483647
narrow-item [] k s e h = absurd (cc)
narrow-item (x ∷ xs) zero s e h =
    let same : x ≡ s = cc in leb-true s.arity 2147483647 (ap is_narrow (sym same) ∙ (and_parts (is_narrow x) (list_all is_narrow xs) h).0)
narrow-item (x ∷ xs) (suc k) s e h = narrow-item xs k s e (and_parts (is_narrow x) (list_all is_narrow xs) h).1

-- ---- items that were read

pub all-short : (modal : Bool) (items : List Passed) → AreRead modal items → IsTrue (list_all (λ (p : Passed). is_short p.body) items)
all-short modal items h = h is_short (λ text is l r. read-short modal text is l r)

pub kept-short : (keep : Passed → Bool) (items : List Passed) → IsTrue (list_all (λ (p : Passed). is_short p.body) items) → IsTrue (list_all is_short (bodies (filter keep items)))
kept-short keep [] h = refl
kept-short keep (p ∷ ps) h = by (keep p) (and_parts (is_short p.body) (list_all (λ (p : Passed). is_short p.body) ps) h) (λ k. kept-short keep ps k)
  where
    by : (b : Bool) → IsTrue (is_short p.body) × IsTrue (list_all (λ (p : Passed). is_short p.body) ps) → (IsTrue (list_all (λ (p : Passed). is_short p.body) ps) → IsTrue (list_all is_short (bodies (filter keep ps))))
        → IsTrue (list_all is_short (bodies (if b then p ∷ filter keep ps else filter keep ps)))
    by true q next = and_from (is_short p.body) (list_all is_short (bodies (filter keep ps))) q.0 (next q.1)
    by false q next = next q.1

listed-narrow : (items : List Passed) → IsTrue (list_all (λ (p : Passed). is_short p.body) items) → All (listed items)
listed-narrow [] h = refl
listed-narrow (p ∷ ps) h =
    let q = and_parts (is_short p.body) (list_all (λ (p : Passed). is_short p.body) ps) h in
    join (symbols_in p.body) (listed ps) (source-narrow p.body (leb-true (name_count p.body) 16777216 q.0)) (listed-narrow ps q.1)

pub symbols-narrow : (items : List Passed) → IsTrue (list_all (λ (p : Passed). is_short p.body) items) → All (symbols_of items)
symbols-narrow items h = seen-all is_narrow [] (listed items) (listed-narrow items h)
