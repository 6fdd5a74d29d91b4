-- How many names a formula is written with: each takes a byte of its text, so there are no more than the text has bytes.
use Rattle.std.specs.Prelude.{ℕ, suc, ◌+◌, List, length, Bool, nat_le}
use Rattle.calculus.specs.Syntax.{Symbol}
use Rattle.tptp_reader.specs.Lists.{terms_tree, sources_tree}
use Rattle.tptp_reader.specs.Sources.{SourceTerm, variable, apply, SourceTerms, no_terms, more_terms, Source, atom, truth, falsity, equal, unequal, not, chain, binary, for_all, exists, nec, poss, Sources, no_sources, more_sources}
use Rattle.problem_build.specs.Walk.{greatest_input}

abbrev mutual
  pub term_name_count : SourceTerm → ℕ
  term_name_count (variable x) = 1
  term_name_count (apply f ts) = suc (terms_name_count ts)

  pub terms_name_count : SourceTerms → ℕ
  terms_name_count no_terms = 0
  terms_name_count (more_terms t ts) = term_name_count t + terms_name_count ts

abbrev pub term_list_name_count : List SourceTerm → ℕ
term_list_name_count ts = terms_name_count (terms_tree ts)

-- a variable counts where it stands and where it is quantified
abbrev mutual
  pub name_count : Source → ℕ
  name_count (atom p ts) = suc (terms_name_count ts)
  name_count truth = 1
  name_count falsity = 1
  name_count (equal s t) = term_name_count s + term_name_count t
  name_count (unequal s t) = term_name_count s + term_name_count t
  name_count (not a) = name_count a
  name_count (chain c bs) = sources_name_count bs
  name_count (binary c a b) = name_count a + name_count b
  name_count (for_all xs a) = length xs + name_count a
  name_count (exists xs a) = length xs + name_count a
  name_count (nec a) = name_count a
  name_count (poss a) = name_count a

  pub sources_name_count : Sources → ℕ
  sources_name_count no_sources = 0
  sources_name_count (more_sources a bs) = name_count a + sources_name_count bs

abbrev pub source_list_name_count : List Source → ℕ
source_list_name_count bs = sources_name_count (sources_tree bs)

-- it may stand in a text that is read
abbrev pub is_short : Source → Bool
is_short a = nat_le (name_count a) greatest_input

-- the variables of an axiom of congruence, two for each argument, have numbers of 32 bits
abbrev pub is_narrow : Symbol → Bool
is_narrow s = nat_le s.arity 2147483647
