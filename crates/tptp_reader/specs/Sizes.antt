-- A measure for recursions: each term, formula and list is larger than what stands in it.
use Rattle.std.specs.Prelude.{ℕ, suc, ◌+◌, List}
use Rattle.tptp_reader.specs.Sources.{SourceTerm, variable, apply, SourceTerms, no_terms, more_terms, Source, atom, truth, falsity, equal, unequal, not, chain, binary, for_all, exists, nec, poss, Sources, no_sources, more_sources}
use Rattle.tptp_reader.specs.Lists.{terms_tree, sources_tree}

abbrev mutual
  pub term_size : SourceTerm → ℕ
  term_size (variable x) = 1
  term_size (apply f ts) = suc (terms_size ts)

  pub terms_size : SourceTerms → ℕ
  terms_size no_terms = 0
  terms_size (more_terms t ts) = suc (term_size t + terms_size ts)

abbrev pub term_list_size : List SourceTerm → ℕ
term_list_size ts = terms_size (terms_tree ts)

abbrev mutual
  pub source_size : Source → ℕ
  source_size (atom p ts) = suc (terms_size ts)
  source_size truth = 1
  source_size falsity = 1
  source_size (equal s t) = suc (term_size s + term_size t)
  source_size (unequal s t) = suc (term_size s + term_size t)
  source_size (not a) = suc (source_size a)
  source_size (chain c bs) = suc (sources_size bs)
  source_size (binary c a b) = suc (source_size a + source_size b)
  source_size (for_all xs a) = suc (source_size a)
  source_size (exists xs a) = suc (source_size a)
  source_size (nec a) = suc (source_size a)
  source_size (poss a) = suc (source_size a)

  pub sources_size : Sources → ℕ
  sources_size no_sources = 0
  sources_size (more_sources a bs) = suc (source_size a + sources_size bs)

abbrev pub source_list_size : List Source → ℕ
source_list_size bs = sources_size (sources_tree bs)
