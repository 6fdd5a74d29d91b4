-- The pattern of the calculus that a pattern of the program stands for.
use Rattle.store_theory.specs.Patterns as tree
use Rattle.store_theory.specs.Patterns.{patterns_tree}
use Rattle.term_store.specs.declared.pattern.Pattern.{Pattern}
use Rattle.term_store.specs.declared.pattern.Pattern.TheVariants.{Var, Fun, Eigen, New}

abbrev pub the_pattern : Pattern → tree.Pattern
the_pattern (Var k) = tree.p_var k
the_pattern (Fun f ps) = tree.p_fun f.0 (patterns_tree ps)
the_pattern (Eigen p ps) = tree.p_eigen p.0 (patterns_tree ps)
the_pattern (New p ps) = tree.p_new p.0 (patterns_tree ps)
