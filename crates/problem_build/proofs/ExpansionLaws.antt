-- The expanded formula of an item is closed, and each of its symbols stands at its number with its arity.
use Rattle.std.proofs.Common.{◌≡◌, ◌≢◌, ◌==◌, ◌<◌, ◌+◌, ◌⊎◌, ◌&&◌, ◌||◌, ℕ, suc, Bool, true, false, List, [], ◌∷◌, ◌++◌, Some, inl, inr, refl, sym, ◌∙◌, ap, append_assoc, subst, arith, length, slice_get, flat_map, IsTrue, if◌then◌else◌}
use Rattle.std.specs.Prelude.{reverse}
use Rattle.std.specs.List.{list_all, list_any}
use Rattle.std.specs.Option.{option_map_or}
use Rattle.std.proofs.lemmas.Bool.{and_parts, and_from, false≢true, lt-ltb, or_left, or_right}
use Rattle.std.proofs.lemmas.Bool.Decides.{eqb_tells}
use Rattle.std.proofs.lemmas.List.{length-append, length-reverse, reverse-append}
use Rattle.std.proofs.lemmas.List.Folds.{list_all-append}
use Rattle.plain_laws.proofs.Numbers.{eqb-iff}
use Rattle.calculus.specs.declared.setting.Logic.{Logic}
use Rattle.calculus.specs.Equality.{symbol_eq}
use Rattle.calculus.specs.Problems.{formula_fits, has_predicate, is_atom_class, is_modal, term_fits_in, terms_fit_in}
use Rattle.calculus.specs.Skolem.{has_function, is_function}
use Rattle.calculus.specs.Syntax as tree
use Rattle.calculus.specs.Syntax.{Symbol, Formula, arity_of}
use Rattle.calculus.proofs.EqualityLaws.{list_eq-tells, symbol_eq-tells, symbol_self}
use Rattle.tptp_reader.specs.declared.source.ChainKind.{ChainKind}
use Rattle.tptp_reader.specs.declared.source.ChainKind.TheVariants.{And, Or}
use Rattle.tptp_reader.specs.declared.source.BinaryKind.{BinaryKind}
use Rattle.tptp_reader.specs.declared.source.BinaryKind.TheVariants.{Imp, If, Iff, Xor, Nor, Nand}
use Rattle.tptp_reader.specs.Sources.{Name, SourceTerm, variable, apply, SourceTerms, no_terms, more_terms, Source, atom, truth, falsity, equal, unequal, not, chain, binary, for_all, exists, nec, poss, Sources, no_sources, more_sources}
use Rattle.problem_build.specs.Expansion.{binary_formula, binary_symbols, chain_formula, closed, argument_count, equality_atom, equality_symbol, expanded, expanded_all, expanded_term, expanded_terms, first_seen, free_in, free_in_all, free_variables, function_symbol, joined_chain, number_of, place_of, predicate_symbol, quantified, same_name, symbols_in, symbols_in_all, term_symbols, terms_symbols, true_formula, truth_symbol, unbound, variables_in, variables_in_all}
use Rattle.problem_build.specs.Walk.{Passed}
use Rattle.problem_build.specs.Building.{formulas_of, symbols_of}
use Rattle.problem_build.specs.Balance.{IsBalanced, one, halves}
use Rattle.problem_build.proofs.BalanceLaws.{balanced-balanced}

-- ---- tests over lists

record Placed_at {A : Type 0} (test : A → Bool) (xs : List A) : Type 0 where
  pub item : A
  pub there : slice_get xs (place_of test xs) ≡ Some item
  pub passes : test item ≡ true
  pub within : place_of test xs < length xs

placed : {A : Type 0} (test : A → Bool) (xs : List A) → IsTrue (list_any test xs) → Placed_at test xs
placed test [] h = absurd (false≢true h)
placed test (x ∷ xs) h = by (test x) refl h (λ k. placed test xs k)
  where
    by : (b : Bool) → test x ≡ b → IsTrue (b || list_any test xs) → (IsTrue (list_any test xs) → Placed_at test xs) → Placed_at test (x ∷ xs)
    by true e k next =
        let n : place_of test (x ∷ xs) ≡ 0 = ap (λ b. if b then 0 else suc (place_of test xs)) e in
        record { item = x; there = ap (slice_get (x ∷ xs)) n; passes = e; within = omega (arith, n) }
    by false e k next =
        let p = next k in
        let n : place_of test (x ∷ xs) ≡ suc (place_of test xs) = ap (λ b. if b then 0 else suc (place_of test xs)) e in
        let l : place_of test xs < length xs = p.within in
        record { item = p.item; there = ap (slice_get (x ∷ xs)) n ∙ p.there; passes = p.passes; within = omega (arith, n, l) }

-- each of the first list is in the second, by the test
abbrev Within : {A : Type 0} → (A → A → Bool) → List A → List A → Type 0
Within same xs ys = IsTrue (list_all (λ x. list_any (same x) ys) xs)

within-parts : {A : Type 0} (same : A → A → Bool) (xs ys zs : List A) → Within same (xs ++ ys) zs → Within same xs zs × Within same ys zs
within-parts same xs ys zs h = and_parts (list_all (λ x. list_any (same x) zs) xs) (list_all (λ x. list_any (same x) zs) ys) (sym (list_all-append (λ x. list_any (same x) zs) xs ys) ∙ h)

-- ---- symbols

pub same-number : (n : ℕ) → (n == n) ≡ true
same-number n = by (eqb_tells n n)
  where
    by : (((n == n) ≡ true) × (n ≡ n)) ⊎ (((n == n) ≡ false) × (n ≢ n)) → (n == n) ≡ true
    by (inl h) = h.0
    by (inr h) = absurd (h.1 refl)

symbol-there : (symbols : List Symbol) (s : Symbol) → IsTrue (list_any (symbol_eq s) symbols) → slice_get symbols (number_of symbols s) ≡ Some s
symbol-there symbols s h = let p = placed (symbol_eq s) symbols h in p.there ∙ ap Some (sym ((symbol_eq-tells s p.item).0 p.passes))

pub predicate-there : (symbols : List Symbol) (s : Symbol) → is_atom_class s.class ≡ true → IsTrue (list_any (symbol_eq s) symbols) → IsTrue (has_predicate symbols (number_of symbols s) s.arity)
predicate-there symbols s c h =
    ap (λ o. option_map_or (λ (t : Symbol). is_atom_class t.class && t.arity == s.arity) o false) (symbol-there symbols s h) ∙ and_from (is_atom_class s.class) (s.arity == s.arity) c (same-number s.arity)

pub function-there : (symbols : List Symbol) (f : Name) (n : ℕ) → IsTrue (list_any (symbol_eq (function_symbol f n)) symbols) → IsTrue (has_function symbols (number_of symbols (function_symbol f n)) n)
function-there symbols f n h =
    ap (λ o. option_map_or (λ (t : Symbol). is_function t.class && t.arity == n) o false) (symbol-there symbols (function_symbol f n) h) ∙ same-number n

-- ---- terms

count-arity : (symbols : List Symbol) (xs : List Name) (ts : SourceTerms) → arity_of (expanded_terms symbols xs ts) ≡ argument_count ts
count-arity symbols xs no_terms = refl
count-arity symbols xs (more_terms t ts) = ap suc (count-arity symbols xs ts)

mutual
  term-fits : (t : SourceTerm) (symbols : List Symbol) (xs : List Name) → Within symbol_eq (term_symbols t) symbols → Within same_name (variables_in t) xs → IsTrue (term_fits_in symbols (length xs) (expanded_term symbols xs t))
  term-fits (variable x) symbols xs h k = let p = and_parts (list_any (same_name x) xs) true k in let q = placed (same_name x) xs p.0 in lt-ltb (place_of (same_name x) xs) (length xs) q.within
  term-fits (apply f ts) symbols xs h k =
      let p = and_parts (list_any (symbol_eq (function_symbol f (argument_count ts))) symbols) (list_all (λ s. list_any (symbol_eq s) symbols) (terms_symbols ts)) h in
      and_from (has_function symbols (number_of symbols (function_symbol f (argument_count ts))) (arity_of (expanded_terms symbols xs ts))) (terms_fit_in symbols (length xs) (expanded_terms symbols xs ts))
      (ap (has_function symbols (number_of symbols (function_symbol f (argument_count ts)))) (count-arity symbols xs ts) ∙ function-there symbols f (argument_count ts) p.0) (terms-fit ts symbols xs p.1 k)

  terms-fit : (ts : SourceTerms) (symbols : List Symbol) (xs : List Name) → Within symbol_eq (terms_symbols ts) symbols → Within same_name (variables_in_all ts) xs → IsTrue (terms_fit_in symbols (length xs) (expanded_terms symbols xs ts))
  terms-fit no_terms symbols xs h k = refl
  terms-fit (more_terms t ts) symbols xs h k =
      let p = within-parts symbol_eq (term_symbols t) (terms_symbols ts) symbols h in
      let q = within-parts same_name (variables_in t) (variables_in_all ts) xs k in
      and_from (term_fits_in symbols (length xs) (expanded_term symbols xs t)) (terms_fit_in symbols (length xs) (expanded_terms symbols xs ts)) (term-fits t symbols xs p.0 q.0) (terms-fit ts symbols xs p.1 q.1)

-- ---- variables

among : (y : Name) (zs xs : List Name) → Within same_name zs xs → IsTrue (list_any (same_name y) zs) → IsTrue (list_any (same_name y) xs)
among y [] xs p q = absurd (false≢true q)
among y (z ∷ zs) xs p q = at (same_name y z) refl q (λ r. among y zs xs (and_parts (list_any (same_name z) xs) (list_all (λ x. list_any (same_name x) xs) zs) p).1 r)
  where
    at : (b : Bool) → same_name y z ≡ b → IsTrue (b || list_any (same_name y) zs) → (IsTrue (list_any (same_name y) zs) → IsTrue (list_any (same_name y) xs)) → IsTrue (list_any (same_name y) xs)
    at true e r next = let n : y ≡ z = (list_eq-tells ◌==◌ eqb-iff y z).0 e in subst (λ w. IsTrue (list_any (same_name w) xs)) (sym n) (and_parts (list_any (same_name z) xs) (list_all (λ x. list_any (same_name x) xs) zs) p).0
    at false e r next = next r

-- what is bound and what is not
unbound-within : (bound ys xs : List Name) → Within same_name bound xs → Within same_name (unbound bound ys) xs → Within same_name ys xs
unbound-within bound [] xs h k = refl
unbound-within bound (y ∷ ys) xs h k = by (list_any (same_name y) bound) refl k (λ l. unbound-within bound ys xs h l)
  where
    by : (b : Bool) → list_any (same_name y) bound ≡ b → Within same_name (if b then unbound bound ys else y ∷ unbound bound ys) xs → (Within same_name (unbound bound ys) xs → Within same_name ys xs) → Within same_name (y ∷ ys) xs
    by true e l next = and_from (list_any (same_name y) xs) (list_all (λ x. list_any (same_name x) xs) ys) (among y bound xs h e) (next l)
    by false e l next = let p = and_parts (list_any (same_name y) xs) (list_all (λ x. list_any (same_name x) xs) (unbound bound ys)) l in and_from (list_any (same_name y) xs) (list_all (λ x. list_any (same_name x) xs) ys) p.0 (next p.1)

any-append : {A : Type 0} (test : A → Bool) (xs ys : List A) → list_any test (xs ++ ys) ≡ list_any test xs || list_any test ys
any-append test [] ys = refl
any-append test (x ∷ xs) ys = by (test x) (any-append test xs ys)
  where
    by : (b : Bool) → list_any test (xs ++ ys) ≡ list_any test xs || list_any test ys → (b || list_any test (xs ++ ys)) ≡ (b || list_any test xs) || list_any test ys
    by true h = refl
    by false h = h

-- more names on the outside
within-more : (cs zs xs : List Name) → Within same_name cs xs → Within same_name cs (zs ++ xs)
within-more [] zs xs h = refl
within-more (a ∷ cs) zs xs h =
    let p = and_parts (list_any (same_name a) xs) (list_all (λ x. list_any (same_name x) xs) cs) h in
    and_from (list_any (same_name a) (zs ++ xs)) (list_all (λ x. list_any (same_name x) (zs ++ xs)) cs) (any-append (same_name a) zs xs ∙ or_right (list_any (same_name a) zs) (list_any (same_name a) xs) p.0) (within-more cs zs xs p.1)

any-reverse : {A : Type 0} (test : A → Bool) (xs : List A) → IsTrue (list_any test xs) → IsTrue (list_any test (reverse xs))
any-reverse test [] h = h
any-reverse test (x ∷ xs) h = ap (list_any test) (reverse-append (x ∷ []) xs) ∙ any-append test (reverse xs) (x ∷ []) ∙ by (test x) h (λ k. any-reverse test xs k)
  where
    by : (b : Bool) → IsTrue (b || list_any test xs) → (IsTrue (list_any test xs) → IsTrue (list_any test (reverse xs))) → IsTrue (list_any test (reverse xs) || (b || false))
    by true k next = or_right (list_any test (reverse xs)) true refl
    by false k next = or_left (list_any test (reverse xs)) false (next k)

pub same-self : (y : Name) → IsTrue (same_name y y)
same-self y = (list_eq-tells ◌==◌ eqb-iff y y).1 refl

-- each name of a list is among the names of the list turned round, whatever stands behind
within-turned : (front ys xs : List Name) → Within same_name ys (reverse (front ++ ys) ++ xs)
within-turned front [] xs = refl
within-turned front (y ∷ ys) xs =
    and_from (list_any (same_name y) (reverse (front ++ y ∷ ys) ++ xs)) (list_all (λ x. list_any (same_name x) (reverse (front ++ y ∷ ys) ++ xs)) ys)
    (any-append (same_name y) (reverse (front ++ y ∷ ys)) xs ∙ or_left (list_any (same_name y) (reverse (front ++ y ∷ ys))) (list_any (same_name y) xs)
    (any-reverse (same_name y) (front ++ y ∷ ys) (any-append (same_name y) front (y ∷ ys) ∙ or_right (list_any (same_name y) front) (same_name y y || list_any (same_name y) ys) (or_left (same_name y y) (list_any (same_name y) ys) (same-self y)))))
    (subst (λ z. Within same_name ys (reverse z ++ xs)) (append_assoc front (y ∷ []) ys) (within-turned (front ++ y ∷ []) ys xs))

-- ---- formulas

-- modal operators stand where they may, and no chain is empty
abbrev mutual
  pub is_well : Bool → Source → Bool
  is_well m (atom p ts) = true
  is_well m truth = true
  is_well m falsity = true
  is_well m (equal s t) = true
  is_well m (unequal s t) = true
  is_well m (not a) = is_well m a
  is_well m (chain c no_sources) = false
  is_well m (chain c (more_sources a bs)) = is_well m a && are_well m bs
  is_well m (binary c a b) = is_well m a && is_well m b
  is_well m (for_all xs a) = is_well m a
  is_well m (exists xs a) = is_well m a
  is_well m (nec a) = m && is_well m a
  is_well m (poss a) = m && is_well m a

  pub are_well : Bool → Sources → Bool
  are_well m no_sources = true
  are_well m (more_sources a bs) = is_well m a && are_well m bs

pub balanced-keeps : {A : Type 0} (test : A → Bool) (join : A → A → A) → ((x y : A) → IsTrue (test x) → IsTrue (test y) → IsTrue (test (join x y))) → (xs : List A) (x : A) → IsBalanced join xs x → IsTrue (list_all test xs) → IsTrue (test x)
balanced-keeps test join kept _ _ (one x) h = (and_parts (test x) true h).0
balanced-keeps test join kept _ _ (halves xs ys x y e p q) h =
    let parts = and_parts (list_all test xs) (list_all test ys) (sym (list_all-append test xs ys) ∙ h) in
    kept x y (balanced-keeps test join kept xs x p parts.0) (balanced-keeps test join kept ys y q parts.1)

chain-fits : (c : ChainKind) (l : Logic) (symbols : List Symbol) (d : ℕ) (a b : Formula) → IsTrue (formula_fits l symbols d a) → IsTrue (formula_fits l symbols d b) → IsTrue (formula_fits l symbols d (chain_formula c a b))
chain-fits And l symbols d a b p q = and_from (formula_fits l symbols d a) (formula_fits l symbols d b) p q
chain-fits Or l symbols d a b p q = and_from (formula_fits l symbols d a) (formula_fits l symbols d b) p q

pub joined-fits : (c : ChainKind) (l : Logic) (symbols : List Symbol) (d : ℕ) (a : Formula) (bs : List Formula) → IsTrue (list_all (formula_fits l symbols d) (a ∷ bs)) → IsTrue (formula_fits l symbols d (joined_chain c symbols (a ∷ bs)))
joined-fits c l symbols d a bs h = balanced-keeps (formula_fits l symbols d) (chain_formula c) (λ x y p q. chain-fits c l symbols d x y p q) (a ∷ bs) _ (balanced-balanced (chain_formula c) a bs) h

binary-fits : (c : BinaryKind) (l : Logic) (symbols : List Symbol) (d : ℕ) (a b : Formula) → IsTrue (formula_fits l symbols d a) → IsTrue (formula_fits l symbols d b) → IsTrue (formula_fits l symbols d (binary_formula c a b))
binary-fits Imp l symbols d a b p q = and_from (formula_fits l symbols d a) (formula_fits l symbols d b) p q
binary-fits If l symbols d a b p q = and_from (formula_fits l symbols d b) (formula_fits l symbols d a) q p
binary-fits Iff l symbols d a b p q = and_from (formula_fits l symbols d a && formula_fits l symbols d b) (formula_fits l symbols d b && formula_fits l symbols d a) (and_from (formula_fits l symbols d a) (formula_fits l symbols d b) p q) (and_from (formula_fits l symbols d b) (formula_fits l symbols d a) q p)
binary-fits Xor l symbols d a b p q = and_from (formula_fits l symbols d a && formula_fits l symbols d b) (formula_fits l symbols d b && formula_fits l symbols d a) (and_from (formula_fits l symbols d a) (formula_fits l symbols d b) p q) (and_from (formula_fits l symbols d b) (formula_fits l symbols d a) q p)
binary-fits Nor l symbols d a b p q = and_from (formula_fits l symbols d a) (formula_fits l symbols d b) p q
binary-fits Nand l symbols d a b p q = and_from (formula_fits l symbols d a) (formula_fits l symbols d b) p q

binary-within : (c : BinaryKind) (cs bs symbols : List Symbol) → Within symbol_eq (binary_symbols c cs bs) symbols → Within symbol_eq cs symbols × Within symbol_eq bs symbols
binary-within If cs bs symbols h = let p = within-parts symbol_eq bs cs symbols h in (p.1, p.0)
binary-within Imp cs bs symbols h = within-parts symbol_eq cs bs symbols h
binary-within Iff cs bs symbols h = within-parts symbol_eq cs bs symbols h
binary-within Xor cs bs symbols h = within-parts symbol_eq cs bs symbols h
binary-within Nor cs bs symbols h = within-parts symbol_eq cs bs symbols h
binary-within Nand cs bs symbols h = within-parts symbol_eq cs bs symbols h

pub all-fits : (l : Logic) (symbols : List Symbol) (d : ℕ) (ys : List Name) (f : Formula) → formula_fits l symbols d (quantified tree.all ys f) ≡ formula_fits l symbols (length ys + d) f
all-fits l symbols d [] f = ap (λ n. formula_fits l symbols n f) (omega arith)
all-fits l symbols d (y ∷ ys) f = all-fits l symbols (suc d) ys f ∙ ap (λ n. formula_fits l symbols n f) (omega arith)

ex-fits : (l : Logic) (symbols : List Symbol) (d : ℕ) (ys : List Name) (f : Formula) → formula_fits l symbols d (quantified tree.ex ys f) ≡ formula_fits l symbols (length ys + d) f
ex-fits l symbols d [] f = ap (λ n. formula_fits l symbols n f) (omega arith)
ex-fits l symbols d (y ∷ ys) f = ex-fits l symbols (suc d) ys f ∙ ap (λ n. formula_fits l symbols n f) (omega arith)

turned-length : (ys xs : List Name) → length ys + length xs ≡ length (reverse ys ++ xs)
turned-length ys xs = omega (arith, length-append (reverse ys) xs, length-reverse ys)

true-fits : (l : Logic) (symbols : List Symbol) (d : ℕ) → IsTrue (list_any (symbol_eq truth_symbol) symbols) → IsTrue (formula_fits l symbols d (true_formula symbols))
true-fits l symbols d h =
    let p = predicate-there symbols truth_symbol refl h in
    let a = and_from (has_predicate symbols (number_of symbols truth_symbol) 0) true p refl in
    and_from (has_predicate symbols (number_of symbols truth_symbol) 0 && true) (has_predicate symbols (number_of symbols truth_symbol) 0 && true) a a

pub equality-fits : (l : Logic) (symbols : List Symbol) (d : ℕ) (s t : tree.Term) → IsTrue (list_any (symbol_eq equality_symbol) symbols) → IsTrue (term_fits_in symbols d s) → IsTrue (term_fits_in symbols d t) → IsTrue (formula_fits l symbols d (equality_atom symbols s t))
equality-fits l symbols d s t h p q =
    and_from (has_predicate symbols (number_of symbols equality_symbol) 2) (term_fits_in symbols d s && (term_fits_in symbols d t && true)) (predicate-there symbols equality_symbol refl h)
    (and_from (term_fits_in symbols d s) (term_fits_in symbols d t && true) p (and_from (term_fits_in symbols d t) true q refl))

bound-within : (ys bound xs : List Name) → Within same_name bound xs → Within same_name (bound ++ ys) (reverse ys ++ xs)
bound-within ys bound xs h =
    list_all-append (λ x. list_any (same_name x) (reverse ys ++ xs)) bound ys
    ∙ and_from (list_all (λ x. list_any (same_name x) (reverse ys ++ xs)) bound) (list_all (λ x. list_any (same_name x) (reverse ys ++ xs)) ys) (within-more bound (reverse ys) xs h) (within-turned [] ys xs)

mutual
  pub expanded-fits : (a : Source) (l : Logic) (symbols : List Symbol) (bound xs : List Name) → IsTrue (is_well (is_modal l) a) → Within symbol_eq (symbols_in a) symbols → Within same_name bound xs → Within same_name (free_in bound a) xs → IsTrue (formula_fits l symbols (length xs) (expanded symbols xs a))
  expanded-fits (atom p ts) l symbols bound xs w h b f =
      let q = and_parts (list_any (symbol_eq (predicate_symbol p (argument_count ts))) symbols) (list_all (λ s. list_any (symbol_eq s) symbols) (terms_symbols ts)) h in
      and_from (has_predicate symbols (number_of symbols (predicate_symbol p (argument_count ts))) (arity_of (expanded_terms symbols xs ts))) (terms_fit_in symbols (length xs) (expanded_terms symbols xs ts))
      (ap (has_predicate symbols (number_of symbols (predicate_symbol p (argument_count ts)))) (count-arity symbols xs ts) ∙ predicate-there symbols (predicate_symbol p (argument_count ts)) refl q.0)
      (terms-fit ts symbols xs q.1 (unbound-within bound (variables_in_all ts) xs b f))
  expanded-fits truth l symbols bound xs w h b f = true-fits l symbols (length xs) (and_parts (list_any (symbol_eq truth_symbol) symbols) true h).0
  expanded-fits falsity l symbols bound xs w h b f = true-fits l symbols (length xs) (and_parts (list_any (symbol_eq truth_symbol) symbols) true h).0
  expanded-fits (equal s t) l symbols bound xs w h b f =
      let q = and_parts (list_any (symbol_eq equality_symbol) symbols) (list_all (λ s. list_any (symbol_eq s) symbols) (term_symbols s ++ term_symbols t)) h in
      let r = within-parts symbol_eq (term_symbols s) (term_symbols t) symbols q.1 in
      let v = within-parts same_name (variables_in s) (variables_in t) xs (unbound-within bound (variables_in s ++ variables_in t) xs b f) in
      equality-fits l symbols (length xs) (expanded_term symbols xs s) (expanded_term symbols xs t) q.0 (term-fits s symbols xs r.0 v.0) (term-fits t symbols xs r.1 v.1)
  expanded-fits (unequal s t) l symbols bound xs w h b f =
      let q = and_parts (list_any (symbol_eq equality_symbol) symbols) (list_all (λ s. list_any (symbol_eq s) symbols) (term_symbols s ++ term_symbols t)) h in
      let r = within-parts symbol_eq (term_symbols s) (term_symbols t) symbols q.1 in
      let v = within-parts same_name (variables_in s) (variables_in t) xs (unbound-within bound (variables_in s ++ variables_in t) xs b f) in
      equality-fits l symbols (length xs) (expanded_term symbols xs s) (expanded_term symbols xs t) q.0 (term-fits s symbols xs r.0 v.0) (term-fits t symbols xs r.1 v.1)
  expanded-fits (not a) l symbols bound xs w h b f = expanded-fits a l symbols bound xs w h b f
  expanded-fits (chain c no_sources) l symbols bound xs w h b f = absurd (false≢true w)
  expanded-fits (chain c (more_sources a bs)) l symbols bound xs w h b f =
      let q = and_parts (is_well (is_modal l) a) (are_well (is_modal l) bs) w in
      let r = within-parts symbol_eq (symbols_in a) (symbols_in_all bs) symbols h in
      let v = within-parts same_name (free_in bound a) (free_in_all bound bs) xs f in
      joined-fits c l symbols (length xs) (expanded symbols xs a) (expanded_all symbols xs bs)
      (and_from (formula_fits l symbols (length xs) (expanded symbols xs a)) (list_all (formula_fits l symbols (length xs)) (expanded_all symbols xs bs)) (expanded-fits a l symbols bound xs q.0 r.0 b v.0) (all-expanded-fit bs l symbols bound xs q.1 r.1 b v.1))
  expanded-fits (binary c a d) l symbols bound xs w h b f =
      let q = and_parts (is_well (is_modal l) a) (is_well (is_modal l) d) w in
      let r = binary-within c (symbols_in a) (symbols_in d) symbols h in
      let v = within-parts same_name (free_in bound a) (free_in bound d) xs f in
      binary-fits c l symbols (length xs) (expanded symbols xs a) (expanded symbols xs d) (expanded-fits a l symbols bound xs q.0 r.0 b v.0) (expanded-fits d l symbols bound xs q.1 r.1 b v.1)
  expanded-fits (for_all ys a) l symbols bound xs w h b f =
      all-fits l symbols (length xs) ys (expanded symbols (reverse ys ++ xs) a) ∙ ap (λ n. formula_fits l symbols n (expanded symbols (reverse ys ++ xs) a)) (turned-length ys xs)
      ∙ expanded-fits a l symbols (bound ++ ys) (reverse ys ++ xs) w h (bound-within ys bound xs b) (within-more (free_in (bound ++ ys) a) (reverse ys) xs f)
  expanded-fits (exists ys a) l symbols bound xs w h b f =
      ex-fits l symbols (length xs) ys (expanded symbols (reverse ys ++ xs) a) ∙ ap (λ n. formula_fits l symbols n (expanded symbols (reverse ys ++ xs) a)) (turned-length ys xs)
      ∙ expanded-fits a l symbols (bound ++ ys) (reverse ys ++ xs) w h (bound-within ys bound xs b) (within-more (free_in (bound ++ ys) a) (reverse ys) xs f)
  expanded-fits (nec a) l symbols bound xs w h b f =
      let q = and_parts (is_modal l) (is_well (is_modal l) a) w in and_from (is_modal l) (formula_fits l symbols (length xs) (expanded symbols xs a)) q.0 (expanded-fits a l symbols bound xs q.1 h b f)
  expanded-fits (poss a) l symbols bound xs w h b f =
      let q = and_parts (is_modal l) (is_well (is_modal l) a) w in and_from (is_modal l) (formula_fits l symbols (length xs) (expanded symbols xs a)) q.0 (expanded-fits a l symbols bound xs q.1 h b f)

  all-expanded-fit : (cs : Sources) (l : Logic) (symbols : List Symbol) (bound xs : List Name) → IsTrue (are_well (is_modal l) cs) → Within symbol_eq (symbols_in_all cs) symbols → Within same_name bound xs → Within same_name (free_in_all bound cs) xs → IsTrue (list_all (formula_fits l symbols (length xs)) (expanded_all symbols xs cs))
  all-expanded-fit no_sources l symbols bound xs w h b f = refl
  all-expanded-fit (more_sources a bs) l symbols bound xs w h b f =
      let q = and_parts (is_well (is_modal l) a) (are_well (is_modal l) bs) w in
      let r = within-parts symbol_eq (symbols_in a) (symbols_in_all bs) symbols h in
      let v = within-parts same_name (free_in bound a) (free_in_all bound bs) xs f in
      and_from (formula_fits l symbols (length xs) (expanded symbols xs a)) (list_all (formula_fits l symbols (length xs)) (expanded_all symbols xs bs)) (expanded-fits a l symbols bound xs q.0 r.0 b v.0) (all-expanded-fit bs l symbols bound xs q.1 r.1 b v.1)

-- ---- items

-- each item of a list is among the first places
seen : {A : Type 0} (same : A → A → Bool) → ((x : A) → IsTrue (same x x)) → (xs known : List A) → Within same xs (known ++ first_seen same known xs)
seen same self [] known = refl
seen same self (x ∷ xs) known = by (list_any (same x) known) refl (seen same self xs known) (seen same self xs (known ++ x ∷ []))
  where
    by : (b : Bool) → list_any (same x) known ≡ b → Within same xs (known ++ first_seen same known xs) → Within same xs ((known ++ x ∷ []) ++ first_seen same (known ++ x ∷ []) xs)
        → Within same (x ∷ xs) (known ++ (if b then first_seen same known xs else x ∷ first_seen same (known ++ x ∷ []) xs))
    by true e h k =
        and_from (list_any (same x) (known ++ first_seen same known xs)) (list_all (λ y. list_any (same y) (known ++ first_seen same known xs)) xs)
        (any-append (same x) known (first_seen same known xs) ∙ or_left (list_any (same x) known) (list_any (same x) (first_seen same known xs)) e) h
    by false e h k =
        and_from (list_any (same x) (known ++ x ∷ first_seen same (known ++ x ∷ []) xs)) (list_all (λ y. list_any (same y) (known ++ x ∷ first_seen same (known ++ x ∷ []) xs)) xs)
        (any-append (same x) known (x ∷ first_seen same (known ++ x ∷ []) xs) ∙ or_right (list_any (same x) known) (same x x || list_any (same x) (first_seen same (known ++ x ∷ []) xs)) (or_left (same x x) (list_any (same x) (first_seen same (known ++ x ∷ []) xs)) (self x)))
        (subst (λ z. Within same xs z) (append_assoc known (x ∷ []) (first_seen same (known ++ x ∷ []) xs)) k)

within-reverse : (cs xs : List Name) → Within same_name cs xs → Within same_name cs (reverse xs)
within-reverse [] xs h = refl
within-reverse (c ∷ cs) xs h =
    let p = and_parts (list_any (same_name c) xs) (list_all (λ x. list_any (same_name x) xs) cs) h in
    and_from (list_any (same_name c) (reverse xs)) (list_all (λ x. list_any (same_name x) (reverse xs)) cs) (any-reverse (same_name c) xs p.0) (within-reverse cs xs p.1)

-- The formula of an item is closed, and fits the symbols and the logic.
pub closed-fits : (l : Logic) (symbols : List Symbol) (a : Source) → IsTrue (is_well (is_modal l) a) → Within symbol_eq (symbols_in a) symbols → IsTrue (formula_fits l symbols 0 (closed symbols a))
closed-fits l symbols a w h =
    let n : length (free_variables a) + 0 ≡ length (reverse (free_variables a)) = omega (arith, length-reverse (free_variables a)) in
    all-fits l symbols 0 (free_variables a) (expanded symbols (reverse (free_variables a)) a) ∙ ap (λ k. formula_fits l symbols k (expanded symbols (reverse (free_variables a)) a)) n
    ∙ expanded-fits a l symbols [] (reverse (free_variables a)) w h refl (within-reverse (free_in [] a) (free_variables a) (seen same_name same-self (free_in [] a) []))

-- all symbols of formulas stand in the list of their first places
pub all-seen : (ss : List Symbol) → Within symbol_eq ss (first_seen symbol_eq [] ss)
all-seen ss = seen symbol_eq symbol_self ss []

-- The formulas of items fit the symbols that are numbered over them, and over more items.
pub formulas-fit : (l : Logic) (items all : List Passed) → IsTrue (list_all (λ (p : Passed). is_well (is_modal l) p.body) items)
    → Within symbol_eq (flat_map (λ (p : Passed). symbols_in p.body) items) (symbols_of all)
    → IsTrue (list_all (formula_fits l (symbols_of all) 0) (formulas_of (symbols_of all) items))
formulas-fit l [] all w h = refl
formulas-fit l (p ∷ ps) all w h =
    let q = and_parts (is_well (is_modal l) p.body) (list_all (λ (p : Passed). is_well (is_modal l) p.body) ps) w in
    let r = within-parts symbol_eq (symbols_in p.body) (flat_map (λ (p : Passed). symbols_in p.body) ps) (symbols_of all) h in
    and_from (formula_fits l (symbols_of all) 0 (closed (symbols_of all) p.body)) (list_all (formula_fits l (symbols_of all) 0) (formulas_of (symbols_of all) ps))
    (closed-fits l (symbols_of all) p.body q.0 r.0) (formulas-fit l ps all q.1 r.1)
