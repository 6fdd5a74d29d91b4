-- An item of a list of terms or formulas is smaller than the list, so a recursion over it ends.
use Rattle.std.proofs.Common.{◌≡◌, ℕ, zero, suc, ◌<◌, List, [], ◌∷◌, map, length, get_or, arith, ap}
use Rattle.tptp_reader.specs.Sizes.{term_size, term_list_size, source_size, source_list_size}
use Rattle.tptp_reader.specs.TermView.{the_source_term}
use Rattle.tptp_reader.specs.SourceView.{the_source}
use Rattle.tptp_reader.specs.declared.source.SourceTerm.{SourceTerm}
use Rattle.tptp_reader.specs.declared.source.Source.{Source}

pub term-item : (ts : List SourceTerm) (k : ℕ) (t d : SourceTerm) → k < length ts → t ≡ get_or ts k d
    → term_size (the_source_term t) < term_list_size (map the_source_term ts)
term-item [] k t d h e = absurd (omega arith)
term-item (u ∷ ts) zero t d h e = let f : term_size (the_source_term t) ≡ term_size (the_source_term u) = ap (λ x. term_size (the_source_term x)) e in omega arith
term-item (u ∷ ts) (suc k) t d h e = let f = term-item ts k t d (omega arith) e in omega arith

pub source-item : (ts : List Source) (k : ℕ) (t d : Source) → k < length ts → t ≡ get_or ts k d
    → source_size (the_source t) < source_list_size (map the_source ts)
source-item [] k t d h e = absurd (omega arith)
source-item (u ∷ ts) zero t d h e = let f : source_size (the_source t) ≡ source_size (the_source u) = ap (λ x. source_size (the_source x)) e in omega arith
source-item (u ∷ ts) (suc k) t d h e = let f = source-item ts k t d (omega arith) e in omega arith

pub ruleset falling = (term-item, source-item)
