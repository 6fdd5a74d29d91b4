use Rattle.std.proofs.Common.{◌≡◌, ◌≤◌, max, min, map, drop}
use Rattle.tptp_reader.specs.Lists.{terms_tree}
use Rattle.tptp_reader.specs.Sizes.{term_size, term_list_size}
use Rattle.tptp_reader.specs.TermView.{the_source_term}
use Rattle.problem_build.specs.Counting.{terms_nesting}
use Rattle.problem_build.proofs.counts.+term_nesting.Given as goal

abbrev pub invariant-terms_nesting-loop-term : goal.invariant-terms_nesting-loop-term
invariant-terms_nesting-loop-term l =
    (l.deepest ≤ 18446744073709551615)
    × (min (max l.deepest (terms_nesting (terms_tree (map the_source_term (drop l.term-index l.term-items))))) 18446744073709551615 ≡ min (terms_nesting (terms_tree l.terms)) 18446744073709551615)

abbrev pub decreases-term_nesting : goal.decreases-term_nesting
decreases-term_nesting l = term_size (the_source_term l.term.now)

abbrev pub decreases-terms_nesting : goal.decreases-terms_nesting
decreases-terms_nesting l = term_list_size l.terms.now
