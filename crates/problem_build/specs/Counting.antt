-- How many nodes the expanded formula of a source has, and how deep it is, without expanding it.
use Rattle.std.specs.Prelude.{ℕ, suc, ◌+◌, max, min, List, [], ◌∷◌, length}
use Rattle.tptp_reader.specs.declared.source.BinaryKind.{BinaryKind}
use Rattle.tptp_reader.specs.declared.source.BinaryKind.TheVariants.{Imp, If, Iff, Xor, Nor, Nand}
use Rattle.tptp_reader.specs.Sources.{SourceTerm, variable, apply, SourceTerms, no_terms, more_terms, Source, atom, truth, falsity, equal, unequal, not, chain, binary, for_all, exists, nec, poss, Sources, no_sources, more_sources}
use Rattle.problem_build.specs.Balance.{balanced}

-- ---- nodes

abbrev mutual
  pub term_nodes : SourceTerm → ℕ
  term_nodes (variable x) = 1
  term_nodes (apply f ts) = suc (terms_nodes ts)

  pub terms_nodes : SourceTerms → ℕ
  terms_nodes no_terms = 0
  terms_nodes (more_terms t ts) = term_nodes t + terms_nodes ts

abbrev pub binary_nodes : BinaryKind → ℕ → ℕ → ℕ
binary_nodes Imp a b = 1 + (a + b)
binary_nodes If a b = 1 + (a + b)
binary_nodes Iff a b = 3 + ((a + b) + (a + b))
binary_nodes Xor a b = 4 + ((a + b) + (a + b))
binary_nodes Nor a b = 2 + (a + b)
binary_nodes Nand a b = 2 + (a + b)

abbrev mutual
  pub nodes_of : Source → ℕ
  nodes_of (atom p ts) = 1 + terms_nodes ts
  nodes_of truth = 3
  nodes_of falsity = 4
  nodes_of (equal s t) = 1 + (term_nodes s + term_nodes t)
  nodes_of (unequal s t) = 2 + (term_nodes s + term_nodes t)
  nodes_of (not a) = 1 + nodes_of a
  nodes_of (chain c no_sources) = 3
  nodes_of (chain c (more_sources a bs)) = nodes_of a + joined_nodes bs
  nodes_of (binary c a b) = binary_nodes c (nodes_of a) (nodes_of b)
  nodes_of (for_all xs a) = length xs + nodes_of a
  nodes_of (exists xs a) = length xs + nodes_of a
  nodes_of (nec a) = 1 + nodes_of a
  nodes_of (poss a) = 1 + nodes_of a

  -- each with the connective before it
  pub joined_nodes : Sources → ℕ
  joined_nodes no_sources = 0
  joined_nodes (more_sources a bs) = (1 + nodes_of a) + joined_nodes bs

-- ---- nesting

abbrev mutual
  pub term_nesting : SourceTerm → ℕ
  term_nesting (variable x) = 1
  term_nesting (apply f ts) = suc (terms_nesting ts)

  pub terms_nesting : SourceTerms → ℕ
  terms_nesting no_terms = 0
  terms_nesting (more_terms t ts) = max (term_nesting t) (terms_nesting ts)

abbrev pub binary_nesting : BinaryKind → ℕ → ℕ → ℕ
binary_nesting Imp a b = 1 + max a b
binary_nesting If a b = 1 + max a b
binary_nesting Iff a b = 2 + max a b
binary_nesting Xor a b = 3 + max a b
binary_nesting Nor a b = 2 + max a b
binary_nesting Nand a b = 2 + max a b

abbrev pub deeper_by_one : ℕ → ℕ → ℕ
deeper_by_one a b = 1 + max a b

-- no text has an empty chain
abbrev pub chain_nesting : List ℕ → ℕ
chain_nesting [] = 2
chain_nesting (n ∷ ns) = balanced deeper_by_one n ns

abbrev mutual
  pub nesting_of : Source → ℕ
  nesting_of (atom p ts) = 1 + terms_nesting ts
  nesting_of truth = 2
  nesting_of falsity = 3
  nesting_of (equal s t) = 1 + max (term_nesting s) (term_nesting t)
  nesting_of (unequal s t) = 2 + max (term_nesting s) (term_nesting t)
  nesting_of (not a) = 1 + nesting_of a
  nesting_of (chain c bs) = chain_nesting (nestings_of bs)
  nesting_of (binary c a b) = binary_nesting c (nesting_of a) (nesting_of b)
  nesting_of (for_all xs a) = length xs + nesting_of a
  nesting_of (exists xs a) = length xs + nesting_of a
  nesting_of (nec a) = 1 + nesting_of a
  nesting_of (poss a) = 1 + nesting_of a

  pub nestings_of : Sources → List ℕ
  nestings_of no_sources = []
  nestings_of (more_sources a bs) = nesting_of a ∷ nestings_of bs

-- the same, stopping at the greatest number of 64 bits
abbrev pub capped_deeper : ℕ → ℕ → ℕ
capped_deeper a b = min (1 + max a b) 18446744073709551615
