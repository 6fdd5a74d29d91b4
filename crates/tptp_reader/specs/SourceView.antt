-- The formula as it is written that a formula of the program stands for.
use Rattle.tptp_reader.specs.Sources as tree
use Rattle.tptp_reader.specs.Lists.{terms_tree, sources_tree}
use Rattle.tptp_reader.specs.TermView.{the_source_term}
use Rattle.tptp_reader.specs.declared.source.Source.{Source}
use Rattle.tptp_reader.specs.declared.source.Source.TheVariants as source

abbrev pub the_source : Source → tree.Source
the_source (source.Atom p ts) = tree.atom p (terms_tree ts)
the_source source.True = tree.truth
the_source source.False = tree.falsity
the_source (source.Equal s t) = tree.equal (the_source_term s) (the_source_term t)
the_source (source.Unequal s t) = tree.unequal (the_source_term s) (the_source_term t)
the_source (source.Not a) = tree.not a
the_source (source.Chain c bs) = tree.chain c (sources_tree bs)
the_source (source.Binary c a b) = tree.binary c a b
the_source (source.All xs a) = tree.for_all xs a
the_source (source.Ex xs a) = tree.exists xs a
the_source (source.Nec a) = tree.nec a
the_source (source.Poss a) = tree.poss a
