-- The counts over sources are those of the expanded formulas.
use Rattle.std.proofs.Common.{◌≡◌, ℕ, suc, ◌+◌, List, [], ◌∷◌, length, map, min, ◌≤◌, refl, sym, ◌∙◌, ap, arith, subst}
use Rattle.calculus.specs.Measures as tree
use Rattle.calculus.specs.Syntax as syntax
use Rattle.calculus.specs.Syntax.{Symbol, Formula}
use Rattle.tptp_reader.specs.declared.source.ChainKind.{ChainKind}
use Rattle.tptp_reader.specs.declared.source.ChainKind.TheVariants.{And, Or}
use Rattle.tptp_reader.specs.declared.source.BinaryKind.{BinaryKind}
use Rattle.tptp_reader.specs.declared.source.BinaryKind.TheVariants.{Imp, If, Iff, Xor, Nor, Nand}
use Rattle.tptp_reader.specs.Sources.{Name, SourceTerm, variable, apply, SourceTerms, no_terms, more_terms, Source, atom, truth, falsity, equal, unequal, not, chain, binary, for_all, exists, nec, poss, Sources, no_sources, more_sources}
use Rattle.problem_build.specs.Balance.{IsBalanced, balanced}
use Rattle.problem_build.specs.Counting.{binary_nesting, binary_nodes, capped_deeper, chain_nesting, deeper_by_one, joined_nodes, nesting_of, nestings_of, nodes_of, term_nesting, term_nodes, terms_nesting, terms_nodes}
use Rattle.problem_build.specs.Expansion.{binary_formula, chain_formula, closed, expanded, expanded_all, expanded_term, expanded_terms, free_variables, quantified}
use Rattle.problem_build.proofs.BalanceLaws.{balanced-balanced, balanced-map, balanced-alone, balanced-total, total}

-- ---- nodes

mutual
  term-nodes : (t : SourceTerm) (symbols : List Symbol) (xs : List Name) → tree.term_nodes (expanded_term symbols xs t) ≡ term_nodes t
  term-nodes (variable x) symbols xs = refl
  term-nodes (apply f ts) symbols xs = ap suc (terms-nodes ts symbols xs)

  terms-nodes : (ts : SourceTerms) (symbols : List Symbol) (xs : List Name) → tree.terms_nodes (expanded_terms symbols xs ts) ≡ terms_nodes ts
  terms-nodes no_terms symbols xs = refl
  terms-nodes (more_terms t ts) symbols xs = let a = term-nodes t symbols xs in let b = terms-nodes ts symbols xs in omega arith

binary-nodes : (c : BinaryKind) (f g : Formula) → tree.node_count (binary_formula c f g) ≡ binary_nodes c (tree.node_count f) (tree.node_count g)
binary-nodes Imp f g = omega arith
binary-nodes If f g = omega arith
binary-nodes Iff f g = omega arith
binary-nodes Xor f g = omega arith
binary-nodes Nor f g = omega arith
binary-nodes Nand f g = omega arith

chain-nodes : (c : ChainKind) (f g : Formula) → tree.node_count (chain_formula c f g) ≡ suc (tree.node_count f + tree.node_count g)
chain-nodes And f g = refl
chain-nodes Or f g = refl

joined-total : (c : ChainKind) (f : Formula) (fs : List Formula) → suc (tree.node_count (balanced (chain_formula c) f fs)) ≡ total (map tree.node_count (f ∷ fs))
joined-total c f fs =
    balanced-total (map tree.node_count (f ∷ fs)) _
    (balanced-map tree.node_count (chain_formula c) (λ a b. suc (a + b)) (chain-nodes c) (f ∷ fs) _ (balanced-balanced (chain_formula c) f fs))

all-nodes : (ys : List Name) (f : Formula) → tree.node_count (quantified syntax.all ys f) ≡ length ys + tree.node_count f
all-nodes [] f = omega arith
all-nodes (y ∷ ys) f = let h = all-nodes ys f in omega arith

ex-nodes : (ys : List Name) (f : Formula) → tree.node_count (quantified syntax.ex ys f) ≡ length ys + tree.node_count f
ex-nodes [] f = omega arith
ex-nodes (y ∷ ys) f = let h = ex-nodes ys f in omega arith

mutual
  pub expanded-nodes : (a : Source) (symbols : List Symbol) (xs : List Name) → tree.node_count (expanded symbols xs a) ≡ nodes_of a
  expanded-nodes (atom p ts) symbols xs = let h = terms-nodes ts symbols xs in omega arith
  expanded-nodes truth symbols xs = refl
  expanded-nodes falsity symbols xs = refl
  expanded-nodes (equal s t) symbols xs = let a = term-nodes s symbols xs in let b = term-nodes t symbols xs in omega arith
  expanded-nodes (unequal s t) symbols xs = let a = term-nodes s symbols xs in let b = term-nodes t symbols xs in omega arith
  expanded-nodes (not a) symbols xs = let h = expanded-nodes a symbols xs in omega arith
  expanded-nodes (chain c no_sources) symbols xs = refl
  expanded-nodes (chain c (more_sources a bs)) symbols xs =
      let t = joined-total c (expanded symbols xs a) (expanded_all symbols xs bs) in
      let h = expanded-nodes a symbols xs in
      let k = all-joined bs symbols xs in
      omega arith
  expanded-nodes (binary c a b) symbols xs =
      binary-nodes c (expanded symbols xs a) (expanded symbols xs b)
      ∙ ap (λ n. binary_nodes c n (tree.node_count (expanded symbols xs b))) (expanded-nodes a symbols xs) ∙ ap (binary_nodes c (nodes_of a)) (expanded-nodes b symbols xs)
  expanded-nodes (for_all ys a) symbols xs = all-nodes ys _ ∙ ap (λ n. length ys + n) (expanded-nodes a symbols _)
  expanded-nodes (exists ys a) symbols xs = ex-nodes ys _ ∙ ap (λ n. length ys + n) (expanded-nodes a symbols _)
  expanded-nodes (nec a) symbols xs = let h = expanded-nodes a symbols xs in omega arith
  expanded-nodes (poss a) symbols xs = let h = expanded-nodes a symbols xs in omega arith

  all-joined : (bs : Sources) (symbols : List Symbol) (xs : List Name) → total (map tree.node_count (expanded_all symbols xs bs)) ≡ joined_nodes bs
  all-joined no_sources symbols xs = refl
  all-joined (more_sources a bs) symbols xs = let h = expanded-nodes a symbols xs in let k = all-joined bs symbols xs in omega arith

pub closed-nodes : (symbols : List Symbol) (a : Source) → tree.node_count (closed symbols a) ≡ length (free_variables a) + nodes_of a
closed-nodes symbols a = all-nodes (free_variables a) _ ∙ ap (λ n. length (free_variables a) + n) (expanded-nodes a symbols _)

-- ---- nesting

mutual
  term-nesting : (t : SourceTerm) (symbols : List Symbol) (xs : List Name) → tree.term_nesting (expanded_term symbols xs t) ≡ term_nesting t
  term-nesting (variable x) symbols xs = refl
  term-nesting (apply f ts) symbols xs = ap suc (terms-nesting ts symbols xs)

  terms-nesting : (ts : SourceTerms) (symbols : List Symbol) (xs : List Name) → tree.terms_nesting (expanded_terms symbols xs ts) ≡ terms_nesting ts
  terms-nesting no_terms symbols xs = refl
  terms-nesting (more_terms t ts) symbols xs = let a = term-nesting t symbols xs in let b = terms-nesting ts symbols xs in omega arith

binary-nesting : (c : BinaryKind) (f g : Formula) → tree.nesting (binary_formula c f g) ≡ binary_nesting c (tree.nesting f) (tree.nesting g)
binary-nesting Imp f g = omega arith
binary-nesting If f g = omega arith
binary-nesting Iff f g = omega arith
binary-nesting Xor f g = omega arith
binary-nesting Nor f g = omega arith
binary-nesting Nand f g = omega arith

chain-nesting : (c : ChainKind) (f g : Formula) → tree.nesting (chain_formula c f g) ≡ deeper_by_one (tree.nesting f) (tree.nesting g)
chain-nesting And f g = omega arith
chain-nesting Or f g = omega arith

joined-nesting : (c : ChainKind) (f : Formula) (fs : List Formula) → tree.nesting (balanced (chain_formula c) f fs) ≡ balanced deeper_by_one (tree.nesting f) (map tree.nesting fs)
joined-nesting c f fs =
    balanced-alone deeper_by_one (tree.nesting f) _ (map tree.nesting fs)
    (balanced-map tree.nesting (chain_formula c) deeper_by_one (chain-nesting c) (f ∷ fs) _ (balanced-balanced (chain_formula c) f fs))

all-nesting : (ys : List Name) (f : Formula) → tree.nesting (quantified syntax.all ys f) ≡ length ys + tree.nesting f
all-nesting [] f = omega arith
all-nesting (y ∷ ys) f = let h = all-nesting ys f in omega arith

ex-nesting : (ys : List Name) (f : Formula) → tree.nesting (quantified syntax.ex ys f) ≡ length ys + tree.nesting f
ex-nesting [] f = omega arith
ex-nesting (y ∷ ys) f = let h = ex-nesting ys f in omega arith

mutual
  pub expanded-nesting : (a : Source) (symbols : List Symbol) (xs : List Name) → tree.nesting (expanded symbols xs a) ≡ nesting_of a
  expanded-nesting (atom p ts) symbols xs = let h = terms-nesting ts symbols xs in omega arith
  expanded-nesting truth symbols xs = refl
  expanded-nesting falsity symbols xs = refl
  expanded-nesting (equal s t) symbols xs = let a = term-nesting s symbols xs in let b = term-nesting t symbols xs in omega arith
  expanded-nesting (unequal s t) symbols xs = let a = term-nesting s symbols xs in let b = term-nesting t symbols xs in omega arith
  expanded-nesting (not a) symbols xs = let h = expanded-nesting a symbols xs in omega arith
  expanded-nesting (chain c no_sources) symbols xs = refl
  expanded-nesting (chain c (more_sources a bs)) symbols xs =
      joined-nesting c (expanded symbols xs a) (expanded_all symbols xs bs)
      ∙ ap (λ n. balanced deeper_by_one n (map tree.nesting (expanded_all symbols xs bs))) (expanded-nesting a symbols xs)
      ∙ ap (balanced deeper_by_one (nesting_of a)) (all-nestings bs symbols xs)
  expanded-nesting (binary c a b) symbols xs =
      binary-nesting c (expanded symbols xs a) (expanded symbols xs b)
      ∙ ap (λ n. binary_nesting c n (tree.nesting (expanded symbols xs b))) (expanded-nesting a symbols xs) ∙ ap (binary_nesting c (nesting_of a)) (expanded-nesting b symbols xs)
  expanded-nesting (for_all ys a) symbols xs = all-nesting ys _ ∙ ap (λ n. length ys + n) (expanded-nesting a symbols _)
  expanded-nesting (exists ys a) symbols xs = ex-nesting ys _ ∙ ap (λ n. length ys + n) (expanded-nesting a symbols _)
  expanded-nesting (nec a) symbols xs = let h = expanded-nesting a symbols xs in omega arith
  expanded-nesting (poss a) symbols xs = let h = expanded-nesting a symbols xs in omega arith

  all-nestings : (bs : Sources) (symbols : List Symbol) (xs : List Name) → map tree.nesting (expanded_all symbols xs bs) ≡ nestings_of bs
  all-nestings no_sources symbols xs = refl
  all-nestings (more_sources a bs) symbols xs =
      ap (λ n. n ∷ map tree.nesting (expanded_all symbols xs bs)) (expanded-nesting a symbols xs) ∙ ap (λ ns. nesting_of a ∷ ns) (all-nestings bs symbols xs)

pub closed-nesting : (symbols : List Symbol) (a : Source) → tree.nesting (closed symbols a) ≡ length (free_variables a) + nesting_of a
closed-nesting symbols a = all-nesting (free_variables a) _ ∙ ap (λ n. length (free_variables a) + n) (expanded-nesting a symbols _)

-- ---- up to the greatest number of 64 bits

abbrev capped : ℕ → ℕ
capped n = min n 18446744073709551615

same-list : (ns : List ℕ) → map (λ n. n) ns ≡ ns
same-list [] = refl
same-list (n ∷ ns) = ap (λ ms. n ∷ ms) (same-list ns)

capped-step : (a b : ℕ) → capped (deeper_by_one a b) ≡ capped_deeper (capped a) (capped b)
capped-step a b = omega arith

pub capped-chain : (items ns : List ℕ) (r : ℕ) → items ≡ map capped ns → IsBalanced capped_deeper (map (λ n. n) items) r → 1 ≤ length items → r ≡ capped (chain_nesting ns)
capped-chain items [] r e h k = absurd (omega (arith, ap length e))
capped-chain items (n ∷ ns) r e h k =
    balanced-alone capped_deeper (capped n) r (map capped ns) (subst (λ z. IsBalanced capped_deeper z r) (same-list items ∙ e) h)
    ∙ sym (balanced-alone capped_deeper (capped n) (capped (balanced deeper_by_one n ns)) (map capped ns)
    (balanced-map capped deeper_by_one capped_deeper capped-step (n ∷ ns) _ (balanced-balanced deeper_by_one n ns)))
