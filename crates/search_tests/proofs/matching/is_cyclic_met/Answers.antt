use Rattle.search_tests.proofs.DoublingLaws.{three-terms}
use Rattle.search_tests.proofs.matching.is_cyclic_met.Goals as goal

pub are_matched-requires-clause-cells : goal.are_matched-requires-clause-cells
are_matched-requires-clause-cells c =
    let h = c.in_ok-z.ensures.term in
    three-terms c.variable.new.store.store c.in_ok-z.z.0 c.in_ok-z.z.0 c.in_ok-z.z.0 h h h
