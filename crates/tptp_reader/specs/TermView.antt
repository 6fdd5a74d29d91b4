-- The term as it is written that a term of the program stands for.
use Rattle.tptp_reader.specs.Sources as tree
use Rattle.tptp_reader.specs.Lists.{terms_tree}
use Rattle.tptp_reader.specs.declared.source.SourceTerm.{SourceTerm}
use Rattle.tptp_reader.specs.declared.source.SourceTerm.TheVariants.{Var, Fun}

abbrev pub the_source_term : SourceTerm → tree.SourceTerm
the_source_term (Var x) = tree.variable x
the_source_term (Fun f ts) = tree.apply f (terms_tree ts)
