use Rattle.term_store.specs.PatternView.{the_pattern}
use Rattle.search_tests.proofs.DoublingLaws.{applied-fits, constant-fits}
use Rattle.search_tests.proofs.matching.built_cells_that_meet_patterns.Goals as goal

pub is_met-requires : goal.is_met-requires
is_met-requires g c = λ s vs. applied-fits s vs (the_pattern c.in_ok-same.same) (the_pattern c.constant-inner.result) 1 2 c.in_ok-same.ensures c.constant-inner.ensures

pub is_met-requires-2 : goal.is_met-requires-2
is_met-requires-2 g c = λ s vs. constant-fits s vs (the_pattern c.constant.result) 2 c.constant.ensures
