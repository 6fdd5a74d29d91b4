use Rattle.store_theory.specs.Patterns.{pattern_list_size, pattern_size}
use Rattle.term_store.specs.PatternView.{the_pattern}
use Rattle.search_tree.proofs.heads.+is_apart.Given as goal

abbrev pub decreases-is_apart : goal.decreases-is_apart
decreases-is_apart l = pattern_size (the_pattern l.pattern.now)

abbrev pub decreases-have_parts_apart : goal.decreases-have_parts_apart
decreases-have_parts_apart l = pattern_list_size l.patterns.now
