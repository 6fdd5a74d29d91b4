use Rattle.store_theory.specs.Patterns.{pattern_list_size, pattern_size}
use Rattle.term_store.specs.PatternView.{the_pattern}
use Rattle.search_tree.proofs.occurrences.+bits.Given as goal

abbrev pub decreases-bits_in : goal.decreases-bits_in
decreases-bits_in l = pattern_size (the_pattern l.pattern.now)

abbrev pub decreases-bits_in_all : goal.decreases-bits_in_all
decreases-bits_in_all l = pattern_list_size l.patterns.now
