-- Each symbol of a problem stands in its formula.
use Rattle.std.proofs.Common.{◌≡◌, ℕ, ◌≤◌, Bool, true, false, ◌||◌, ◌==◌, List, [], ◌∷◌, ◌++◌, Option, None, Some, length, IsTrue, if◌then◌else◌, refl, sym, ◌∙◌, ap, subst, arith}
use Rattle.std.specs.Prelude.{Ok, Err, not, nat_lt, reverse}
use Rattle.std.specs.List.{list_all, list_any}
use Rattle.std.proofs.lemmas.Bool.{and_from, and_parts, eq-eqb, or_left, or_right}
use Rattle.std.proofs.lemmas.List.{length-map}
use Rattle.std.proofs.lemmas.List.Folds.{list_all-append, list_any-append}
use Rattle.plain_laws.proofs.Booleans.{or-assoc, or-swap}
use Rattle.calculus.specs.Measures.{node_count}
use Rattle.calculus.specs.Problems.{greatest_nodes, greatest_symbols}
use Rattle.calculus.specs.Syntax as tree
use Rattle.calculus.specs.Syntax.{Symbol, Term, Terms, Formula, Setting, Problem}
use Rattle.tptp_reader.specs.declared.source.BinaryKind.{BinaryKind}
use Rattle.tptp_reader.specs.declared.source.BinaryKind.TheVariants.{Imp, If, Iff, Xor, Nor, Nand}
use Rattle.tptp_reader.specs.declared.source.ChainKind.{ChainKind}
use Rattle.tptp_reader.specs.declared.source.ChainKind.TheVariants.{And, Or}
use Rattle.tptp_reader.specs.Sources.{Name, SourceTerm, variable, apply, SourceTerms, no_terms, more_terms, Source, atom, truth, falsity, equal, unequal, not as negation, chain, binary, for_all, exists, nec, poss, Sources, no_sources, more_sources}
use Rattle.problem_build.specs.Balance.{IsBalanced, one, halves, balanced}
use Rattle.problem_build.specs.Building.{are_flat, axioms_of, conjectures, formulas_of, limited, premises, premises_of, problem_formula, problem_of, sized, symbols_of}
use Rattle.problem_build.specs.Expansion.{argument_count, binary_formula, binary_symbols, chain_formula, closed, equality_atom, equality_symbol, expanded, expanded_all, expanded_term, expanded_terms, free_variables, function_symbol, number_of, predicate_symbol, quantified, symbols_in, true_formula, truth_symbol, symbols_in_all, term_symbols, terms_symbols}
use Rattle.problem_build.specs.Occurring.{HasItsSymbols, stands_in, stands_in_term, stands_in_terms}
use Rattle.problem_build.specs.Refusals.{Refusal, formula_too_large, nesting_too_deep, too_many_symbols}
use Rattle.problem_build.specs.Walk.{Passed}
use Rattle.problem_build.proofs.BalanceLaws.{balanced-balanced}
use Rattle.problem_build.proofs.FittingLaws.{seen-all}
use Rattle.problem_build.proofs.ItemLaws.{listed}
use Rattle.problem_build.proofs.LimitLaws.{problem_with}

-- ---- tests of lists

implied : (p q : Symbol → Bool) (ss : List Symbol) → ((x : Symbol) → IsTrue (p x) → IsTrue (q x)) → IsTrue (list_all p ss) → IsTrue (list_all q ss)
implied p q [] h k = refl
implied p q (s ∷ ss) h k = let r = and_parts (p s) (list_all p ss) k in and_from (q s) (list_all q ss) (h s r.0) (implied p q ss h r.1)

both : (p q : Symbol → Bool) (xs ys : List Symbol) → IsTrue (list_all p xs) → IsTrue (list_all q ys) → IsTrue (list_all (λ x. p x || q x) (xs ++ ys))
both p q xs ys h k =
    list_all-append (λ x. p x || q x) xs ys
    ∙ and_from (list_all (λ x. p x || q x) xs) (list_all (λ x. p x || q x) ys)
    (implied p (λ x. p x || q x) xs (λ x e. or_left (p x) (q x) e) h) (implied q (λ x. p x || q x) ys (λ x e. or_right (p x) (q x) e) k)

or-nothing : (b : Bool) → b ≡ (b || false)
or-nothing true = refl
or-nothing false = refl

widened : (a b : Bool) → IsTrue (a || b) → IsTrue (a || (b || false))
widened true b h = refl
widened false true h = refl
widened false false h = h

-- ---- terms

abbrev in_term : List Symbol → Term → Symbol → Bool
in_term symbols t x = stands_in_term (number_of symbols x) t

abbrev in_terms : List Symbol → Terms → Symbol → Bool
in_terms symbols ts x = stands_in_terms (number_of symbols x) ts

abbrev in_formula : List Symbol → Formula → Symbol → Bool
in_formula symbols f x = stands_in (number_of symbols x) f

abbrev in_formulas : List Symbol → List Formula → Symbol → Bool
in_formulas symbols fs x = list_any (stands_in (number_of symbols x)) fs

mutual
  term-stands : (symbols : List Symbol) (xs : List Name) (t : SourceTerm) → IsTrue (list_all (in_term symbols (expanded_term symbols xs t)) (term_symbols t))
  term-stands symbols xs (variable x) = refl
  term-stands symbols xs (apply f ts) =
      and_from (in_term symbols (expanded_term symbols xs (apply f ts)) (function_symbol f (argument_count ts)))
      (list_all (in_term symbols (expanded_term symbols xs (apply f ts))) (terms_symbols ts))
      (or_left (number_of symbols (function_symbol f (argument_count ts)) == number_of symbols (function_symbol f (argument_count ts)))
      (in_terms symbols (expanded_terms symbols xs ts) (function_symbol f (argument_count ts)))
      (eq-eqb (number_of symbols (function_symbol f (argument_count ts))) (number_of symbols (function_symbol f (argument_count ts))) refl))
      (implied (in_terms symbols (expanded_terms symbols xs ts)) (in_term symbols (expanded_term symbols xs (apply f ts))) (terms_symbols ts)
      (λ x h. or_right (number_of symbols x == number_of symbols (function_symbol f (argument_count ts))) (in_terms symbols (expanded_terms symbols xs ts) x) h)
      (terms-stand symbols xs ts))

  terms-stand : (symbols : List Symbol) (xs : List Name) (ts : SourceTerms) → IsTrue (list_all (in_terms symbols (expanded_terms symbols xs ts)) (terms_symbols ts))
  terms-stand symbols xs no_terms = refl
  terms-stand symbols xs (more_terms t ts) =
      both (in_term symbols (expanded_term symbols xs t)) (in_terms symbols (expanded_terms symbols xs ts)) (term_symbols t) (terms_symbols ts)
      (term-stands symbols xs t) (terms-stand symbols xs ts)

-- an atom has its own symbol and those of its arguments
atom-stands : (symbols : List Symbol) (s : Symbol) (ts : Terms) (ss : List Symbol) → IsTrue (list_all (in_terms symbols ts) ss)
    → IsTrue (list_all (in_formula symbols (tree.atom (number_of symbols s) ts)) (s ∷ ss))
atom-stands symbols s ts ss h =
    and_from (in_formula symbols (tree.atom (number_of symbols s) ts) s) (list_all (in_formula symbols (tree.atom (number_of symbols s) ts)) ss)
    (or_left (number_of symbols s == number_of symbols s) (stands_in_terms (number_of symbols s) ts) (eq-eqb (number_of symbols s) (number_of symbols s) refl))
    (implied (in_terms symbols ts) (in_formula symbols (tree.atom (number_of symbols s) ts)) ss (λ x e. or_right (number_of symbols x == number_of symbols s) (in_terms symbols ts x) e) h)

equation-stands : (symbols : List Symbol) (xs : List Name) (s t : SourceTerm)
    → IsTrue (list_all (in_formula symbols (equality_atom symbols (expanded_term symbols xs s) (expanded_term symbols xs t))) (equality_symbol ∷ (term_symbols s ++ term_symbols t)))
equation-stands symbols xs s t =
    atom-stands symbols equality_symbol (tree.more_terms (expanded_term symbols xs s) (tree.more_terms (expanded_term symbols xs t) tree.no_terms)) (term_symbols s ++ term_symbols t)
    (implied (λ x. in_term symbols (expanded_term symbols xs s) x || in_term symbols (expanded_term symbols xs t) x)
    (in_terms symbols (tree.more_terms (expanded_term symbols xs s) (tree.more_terms (expanded_term symbols xs t) tree.no_terms))) (term_symbols s ++ term_symbols t)
    (λ x h. widened (in_term symbols (expanded_term symbols xs s) x) (in_term symbols (expanded_term symbols xs t) x) h)
    (both (in_term symbols (expanded_term symbols xs s)) (in_term symbols (expanded_term symbols xs t)) (term_symbols s) (term_symbols t) (term-stands symbols xs s) (term-stands symbols xs t)))

-- ---- formulas

all-same : (k : ℕ) (ys : List Name) (f : Formula) → stands_in k (quantified tree.all ys f) ≡ stands_in k f
all-same k [] f = refl
all-same k (y ∷ ys) f = all-same k ys f

ex-same : (k : ℕ) (ys : List Name) (f : Formula) → stands_in k (quantified tree.ex ys f) ≡ stands_in k f
ex-same k [] f = refl
ex-same k (y ∷ ys) f = ex-same k ys f

binary-stands : (c : BinaryKind) (symbols : List Symbol) (f g : Formula) (xs ys : List Symbol) → IsTrue (list_all (in_formula symbols f) xs) → IsTrue (list_all (in_formula symbols g) ys)
    → IsTrue (list_all (in_formula symbols (binary_formula c f g)) (binary_symbols c xs ys))
binary-stands Imp symbols f g xs ys h k = both (in_formula symbols f) (in_formula symbols g) xs ys h k
binary-stands If symbols f g xs ys h k = both (in_formula symbols g) (in_formula symbols f) ys xs k h
binary-stands Iff symbols f g xs ys h k =
    implied (λ x. in_formula symbols f x || in_formula symbols g x) (in_formula symbols (binary_formula Iff f g)) (xs ++ ys)
    (λ x e. or_left (in_formula symbols f x || in_formula symbols g x) (in_formula symbols g x || in_formula symbols f x) e) (both (in_formula symbols f) (in_formula symbols g) xs ys h k)
binary-stands Xor symbols f g xs ys h k =
    implied (λ x. in_formula symbols f x || in_formula symbols g x) (in_formula symbols (binary_formula Xor f g)) (xs ++ ys)
    (λ x e. or_left (in_formula symbols f x || in_formula symbols g x) (in_formula symbols g x || in_formula symbols f x) e) (both (in_formula symbols f) (in_formula symbols g) xs ys h k)
binary-stands Nor symbols f g xs ys h k = both (in_formula symbols f) (in_formula symbols g) xs ys h k
binary-stands Nand symbols f g xs ys h k = both (in_formula symbols f) (in_formula symbols g) xs ys h k

-- what stands in a joined list
joined-same : (k : ℕ) (join : Formula → Formula → Formula) → ((x y : Formula) → stands_in k (join x y) ≡ (stands_in k x || stands_in k y)) → (fs : List Formula) (f : Formula) → IsBalanced join fs f
    → stands_in k f ≡ list_any (stands_in k) fs
joined-same k join same _ _ (one x) = or-nothing (stands_in k x)
joined-same k join same _ _ (halves xs ys x y e p q) =
    same x y ∙ (λ i. joined-same k join same xs x p i || joined-same k join same ys y q i) ∙ sym (list_any-append (stands_in k) xs ys)

chain-same : (c : ChainKind) (k : ℕ) (x y : Formula) → stands_in k (chain_formula c x y) ≡ (stands_in k x || stands_in k y)
chain-same And k x y = refl
chain-same Or k x y = refl

chain-stands : (c : ChainKind) (symbols : List Symbol) (f : Formula) (fs : List Formula) (ss : List Symbol) → IsTrue (list_all (in_formulas symbols (f ∷ fs)) ss)
    → IsTrue (list_all (in_formula symbols (balanced (chain_formula c) f fs)) ss)
chain-stands c symbols f fs ss h =
    implied (in_formulas symbols (f ∷ fs)) (in_formula symbols (balanced (chain_formula c) f fs)) ss
    (λ x e. joined-same (number_of symbols x) (chain_formula c) (chain-same c (number_of symbols x)) (f ∷ fs) (balanced (chain_formula c) f fs) (balanced-balanced (chain_formula c) f fs) ∙ e) h

truth-stands : (symbols : List Symbol) → IsTrue (list_all (in_formula symbols (true_formula symbols)) (truth_symbol ∷ []))
truth-stands symbols =
    and_from (in_formula symbols (true_formula symbols) truth_symbol) true
    (or_left (number_of symbols truth_symbol == number_of symbols truth_symbol || false) (number_of symbols truth_symbol == number_of symbols truth_symbol || false)
    (or_left (number_of symbols truth_symbol == number_of symbols truth_symbol) false (eq-eqb (number_of symbols truth_symbol) (number_of symbols truth_symbol) refl))) refl

mutual
  expanded-stands : (symbols : List Symbol) (xs : List Name) (a : Source) → IsTrue (list_all (in_formula symbols (expanded symbols xs a)) (symbols_in a))
  expanded-stands symbols xs (atom p ts) = atom-stands symbols (predicate_symbol p (argument_count ts)) (expanded_terms symbols xs ts) (terms_symbols ts) (terms-stand symbols xs ts)
  expanded-stands symbols xs truth = truth-stands symbols
  expanded-stands symbols xs falsity = truth-stands symbols
  expanded-stands symbols xs (equal s t) = equation-stands symbols xs s t
  expanded-stands symbols xs (unequal s t) = equation-stands symbols xs s t
  expanded-stands symbols xs (negation a) = expanded-stands symbols xs a
  expanded-stands symbols xs (chain c no_sources) = refl
  expanded-stands symbols xs (chain c (more_sources a bs)) =
      chain-stands c symbols (expanded symbols xs a) (expanded_all symbols xs bs) (symbols_in a ++ symbols_in_all bs)
      (both (in_formula symbols (expanded symbols xs a)) (in_formulas symbols (expanded_all symbols xs bs)) (symbols_in a) (symbols_in_all bs) (expanded-stands symbols xs a) (sources-stand symbols xs bs))
  expanded-stands symbols xs (binary c a b) =
      binary-stands c symbols (expanded symbols xs a) (expanded symbols xs b) (symbols_in a) (symbols_in b) (expanded-stands symbols xs a) (expanded-stands symbols xs b)
  expanded-stands symbols xs (for_all ys a) =
      implied (in_formula symbols (expanded symbols (reverse ys ++ xs) a)) (in_formula symbols (quantified tree.all ys (expanded symbols (reverse ys ++ xs) a))) (symbols_in a)
      (λ x h. all-same (number_of symbols x) ys (expanded symbols (reverse ys ++ xs) a) ∙ h) (expanded-stands symbols (reverse ys ++ xs) a)
  expanded-stands symbols xs (exists ys a) =
      implied (in_formula symbols (expanded symbols (reverse ys ++ xs) a)) (in_formula symbols (quantified tree.ex ys (expanded symbols (reverse ys ++ xs) a))) (symbols_in a)
      (λ x h. ex-same (number_of symbols x) ys (expanded symbols (reverse ys ++ xs) a) ∙ h) (expanded-stands symbols (reverse ys ++ xs) a)
  expanded-stands symbols xs (nec a) = expanded-stands symbols xs a
  expanded-stands symbols xs (poss a) = expanded-stands symbols xs a

  sources-stand : (symbols : List Symbol) (xs : List Name) (bs : Sources) → IsTrue (list_all (in_formulas symbols (expanded_all symbols xs bs)) (symbols_in_all bs))
  sources-stand symbols xs no_sources = refl
  sources-stand symbols xs (more_sources a bs) =
      both (in_formula symbols (expanded symbols xs a)) (in_formulas symbols (expanded_all symbols xs bs)) (symbols_in a) (symbols_in_all bs) (expanded-stands symbols xs a) (sources-stand symbols xs bs)

closed-stands : (symbols : List Symbol) (a : Source) → IsTrue (list_all (in_formula symbols (closed symbols a)) (symbols_in a))
closed-stands symbols a =
    implied (in_formula symbols (expanded symbols (reverse (free_variables a)) a)) (in_formula symbols (closed symbols a)) (symbols_in a)
    (λ x h. all-same (number_of symbols x) (free_variables a) (expanded symbols (reverse (free_variables a)) a) ∙ h) (expanded-stands symbols (reverse (free_variables a)) a)

-- ---- items

items-stand : (symbols : List Symbol) (items : List Passed) → IsTrue (list_all (in_formulas symbols (formulas_of symbols items)) (listed items))
items-stand symbols [] = refl
items-stand symbols (p ∷ ps) =
    both (in_formula symbols (closed symbols p.body)) (in_formulas symbols (formulas_of symbols ps)) (symbols_in p.body) (listed ps) (closed-stands symbols p.body) (items-stand symbols ps)

-- those of the premises and of the conjectures
parted : (k : ℕ) (symbols : List Symbol) (items : List Passed)
    → list_any (stands_in k) (formulas_of symbols items) ≡ (list_any (stands_in k) (formulas_of symbols (premises items)) || list_any (stands_in k) (formulas_of symbols (conjectures items)))
parted k symbols [] = refl
parted k symbols (p ∷ ps) = ap (λ b. stands_in k (closed symbols p.body) || b) (parted k symbols ps) ∙ by p.is_conjecture
  where
    by : (b : Bool) → (stands_in k (closed symbols p.body) || (list_any (stands_in k) (formulas_of symbols (premises ps)) || list_any (stands_in k) (formulas_of symbols (conjectures ps))))
        ≡ (list_any (stands_in k) (formulas_of symbols (if not b then p ∷ premises ps else premises ps)) || list_any (stands_in k) (formulas_of symbols (if b then p ∷ conjectures ps else conjectures ps)))
    by true = or-swap (stands_in k (closed symbols p.body)) (list_any (stands_in k) (formulas_of symbols (premises ps))) (list_any (stands_in k) (formulas_of symbols (conjectures ps)))
    by false = or-assoc (stands_in k (closed symbols p.body)) (list_any (stands_in k) (formulas_of symbols (premises ps))) (list_any (stands_in k) (formulas_of symbols (conjectures ps)))

conj-same : (k : ℕ) (a : Formula) (bs : List Formula) → stands_in k (balanced tree.conj a bs) ≡ list_any (stands_in k) (a ∷ bs)
conj-same k a bs = joined-same k tree.conj (λ x y. refl) (a ∷ bs) (balanced tree.conj a bs) (balanced-balanced tree.conj a bs)

formula-same : (k : ℕ) (ps cs : List Formula) (f : Formula) → length cs ≤ 1 → problem_formula ps cs ≡ Some f → (list_any (stands_in k) ps || list_any (stands_in k) cs) ≡ stands_in k f
formula-same k [] [] f few e = absurd (cc)
formula-same k [] (c ∷ []) f few e = let h : c ≡ f = cc in sym (or-nothing (stands_in k c)) ∙ ap (stands_in k) h
formula-same k [] (c ∷ d ∷ cs) f few e = absurd (omega arith)
formula-same k (a ∷ bs) [] f few e =
    let h : tree.neg (balanced tree.conj a bs) ≡ f = cc in sym (or-nothing (list_any (stands_in k) (a ∷ bs))) ∙ sym (conj-same k a bs) ∙ ap (stands_in k) h
formula-same k (a ∷ bs) (c ∷ []) f few e =
    let h : tree.imp (balanced tree.conj a bs) c ≡ f = cc in
    (λ i. sym (conj-same k a bs) i || sym (or-nothing (stands_in k c)) i) ∙ ap (stands_in k) h
formula-same k (a ∷ bs) (c ∷ d ∷ cs) f few e = absurd (omega arith)

-- ---- the problem

opened : (e : Refusal) (s : Setting) (symbols : List Symbol) (ps cs : List Formula) (P : Problem) → limited e s symbols ps cs ≡ Ok P
    → (f : Formula) × (problem_formula ps cs ≡ Some f) × (problem_with s f symbols ≡ P)
opened e s symbols ps cs P h = by (nat_lt greatest_symbols (length symbols)) (are_flat (ps ++ cs)) (problem_formula ps cs) refl h
  where
    inner : (f : Formula) (b : Bool) → (if b then Err formula_too_large else Ok (problem_with s f symbols)) ≡ Ok P → problem_with s f symbols ≡ P
    inner f true k = absurd (cc)
    inner f false k = cc

    by : (a b : Bool) (o : Option Formula) → problem_formula ps cs ≡ o → (if a then Err too_many_symbols else (if b then sized e s symbols o else Err nesting_too_deep)) ≡ Ok P
        → (f : Formula) × (problem_formula ps cs ≡ Some f) × (problem_with s f symbols ≡ P)
    by true b o p k = absurd (cc)
    by false false o p k = absurd (cc)
    by false true None p k = absurd (cc)
    by false true (Some f) p k = (f, p, inner f (nat_lt greatest_nodes (node_count f)) k)

pub problem-stands : (e : Refusal) (s : Setting) (items : List Passed) (P : Problem) → length (conjectures items) ≤ 1 → problem_of e s items ≡ Ok P → HasItsSymbols P
problem-stands e s items P few h =
    let o = opened e s (symbols_of items) (premises_of s (symbols_of items) items) (formulas_of (symbols_of items) (conjectures items)) P h in
    subst (λ Q. HasItsSymbols Q) o.2
    (implied (in_formulas (symbols_of items) (formulas_of (symbols_of items) items)) (in_formula (symbols_of items) o.0) (symbols_of items)
    (λ x k. inside (number_of (symbols_of items) x) o.0 o.1 k)
    (seen-all (in_formulas (symbols_of items) (formulas_of (symbols_of items) items)) [] (listed items) (items-stand (symbols_of items) items)))
  where
    wider : (a b c d : Bool) → IsTrue (b || c) → d ≡ (a || b) → IsTrue (d || c)
    wider a true c d h e = ap (λ x. x || c) e ∙ or_left (a || true) c (or_right a true refl)
    wider a false c d h e = or_right d c h

    inside : (k : ℕ) (f : Formula) → problem_formula (premises_of s (symbols_of items) items) (formulas_of (symbols_of items) (conjectures items)) ≡ Some f
        → IsTrue (list_any (stands_in k) (formulas_of (symbols_of items) items)) → IsTrue (stands_in k f)
    inside k f p t =
        sym (formula-same k (premises_of s (symbols_of items) items) (formulas_of (symbols_of items) (conjectures items)) f
        (omega (arith, few, length-map (conjectures items) (λ (p : Passed). closed (symbols_of items) p.body))) p)
        ∙ wider (list_any (stands_in k) (axioms_of s (symbols_of items))) (list_any (stands_in k) (formulas_of (symbols_of items) (premises items)))
        (list_any (stands_in k) (formulas_of (symbols_of items) (conjectures items))) (list_any (stands_in k) (premises_of s (symbols_of items) items))
        (sym (parted k (symbols_of items) items) ∙ t) (list_any-append (stands_in k) (axioms_of s (symbols_of items)) (formulas_of (symbols_of items) (premises items)))
