-- Each list of terms or formulas is larger than the lists inside it, so a recursion over them ends.
use Rattle.std.specs.Prelude.{◌≤◌, max, List, [], ◌∷◌, map}
use Rattle.std.proofs.Common.{arith}
use denote.Param.Weighed.{most, w_this}
use Rattle.tptp_reader.specs.Sizes.{term_size, term_list_size, source_size, source_list_size}
use Rattle.tptp_reader.specs.TermView.{the_source_term}
use Rattle.tptp_reader.specs.SourceView.{the_source}
use Rattle.tptp_reader.specs.declared.source.SourceTerm.{SourceTerm}
use Rattle.tptp_reader.specs.declared.source.SourceTerm.TheVariants as term
use Rattle.tptp_reader.specs.declared.source.SourceTerms.TheDeep.{deep-SourceTerm}
use Rattle.tptp_reader.specs.declared.source.Source.{Source}
use Rattle.tptp_reader.specs.declared.source.Source.TheVariants as source
use Rattle.tptp_reader.specs.declared.source.SourceBox.TheDeep.{deep-Source}

pub deep-SourceTerm-le-size : (t : SourceTerm) → deep-SourceTerm t ≤ term_size (the_source_term t)
deep-SourceTerm-le-size (term.Var n) = omega arith
deep-SourceTerm-le-size (term.Fun f ts) = omega arith

pub term-falls : (ts : List SourceTerm) → max (most (λ t. w_this.weight term.the_data deep-SourceTerm t) ts) 0 ≤ term_list_size (map the_source_term ts)
term-falls [] = omega arith
term-falls (t ∷ ts) = omega (arith, deep-SourceTerm-le-size t, term-falls ts)

pub deep-Source-le-size : (t : Source) → deep-Source t ≤ source_size (the_source t)
deep-Source-le-size (source.Atom p ts) = omega arith
deep-Source-le-size source.True = omega arith
deep-Source-le-size source.False = omega arith
deep-Source-le-size (source.Equal s t) = omega arith
deep-Source-le-size (source.Unequal s t) = omega arith
deep-Source-le-size (source.Not a) = omega arith
deep-Source-le-size (source.Chain c bs) = omega arith
deep-Source-le-size (source.Binary c a b) = omega arith
deep-Source-le-size (source.All xs a) = omega arith
deep-Source-le-size (source.Ex xs a) = omega arith
deep-Source-le-size (source.Nec a) = omega arith
deep-Source-le-size (source.Poss a) = omega arith

pub source-falls : (ts : List Source) → max (most (λ t. w_this.weight source.the_data deep-Source t) ts) 0 ≤ source_list_size (map the_source ts)
source-falls [] = omega arith
source-falls (t ∷ ts) = omega (arith, deep-Source-le-size t, source-falls ts)

pub box-falls : (t : Source) → max (deep-Source t) 0 ≤ source_size (the_source t)
box-falls t = omega (arith, deep-Source-le-size t)
