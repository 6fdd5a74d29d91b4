use Rattle.calculus.specs.declared.sort.Sort.TheVariants.{TermSort}
use Rattle.store_theory.proofs.PatternLaws.{grown-sort}
use Rattle.term_store.specs.PatternView.{the_pattern}
use Rattle.search_tests.proofs.DoublingLaws.{constant-fits, three-terms}
use Rattle.search_tests.proofs.matching.is_variable_bound.Goals as goal

pub built-requires : goal.built-requires
built-requires c = λ s vs. constant-fits s vs (the_pattern c.constant.result) 2 c.constant.ensures

pub are_matched-requires-clause-cells : goal.are_matched-requires-clause-cells
are_matched-requires-clause-cells c =
    let first = c.built.new.store.store in
    let second = c.variable.new.store.store in
    let last = c.variable-2.new.store.store in
    three-terms last c.in_ok-a.a.0 c.in_ok-w.w.0 c.in_ok-z.z.0
    (grown-sort second last TermSort c.in_ok-a.a.0 c.in_ok-z.ensures.grows (grown-sort first second TermSort c.in_ok-a.a.0 c.in_ok-w.ensures.grows c.in_ok-a.ensures.term))
    (grown-sort second last TermSort c.in_ok-w.w.0 c.in_ok-z.ensures.grows c.in_ok-w.ensures.term)
    c.in_ok-z.ensures.term
