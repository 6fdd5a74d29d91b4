-- The lists inside terms and formulas as lists, and back.
use Rattle.std.specs.Prelude.{◌≡◌, List, [], ◌∷◌, refl}
use Rattle.std.proofs.Common.{ap}
use Rattle.tptp_reader.specs.Sources.{SourceTerm, SourceTerms, no_terms, more_terms, Source, Sources, no_sources, more_sources}

abbrev pub terms_list : SourceTerms → List SourceTerm
terms_list no_terms = []
terms_list (more_terms t ts) = t ∷ terms_list ts

abbrev pub terms_tree : List SourceTerm → SourceTerms
terms_tree [] = no_terms
terms_tree (t ∷ ts) = more_terms t (terms_tree ts)

abbrev pub sources_list : Sources → List Source
sources_list no_sources = []
sources_list (more_sources t ts) = t ∷ sources_list ts

abbrev pub sources_tree : List Source → Sources
sources_tree [] = no_sources
sources_tree (t ∷ ts) = more_sources t (sources_tree ts)

pub terms_tree-terms_list : (ts : SourceTerms) → terms_tree (terms_list ts) ≡ ts
terms_tree-terms_list no_terms = refl
terms_tree-terms_list (more_terms t ts) = ap (more_terms t) (terms_tree-terms_list ts)

pub sources_tree-sources_list : (ts : Sources) → sources_tree (sources_list ts) ≡ ts
sources_tree-sources_list no_sources = refl
sources_tree-sources_list (more_sources t ts) = ap (more_sources t) (sources_tree-sources_list ts)
