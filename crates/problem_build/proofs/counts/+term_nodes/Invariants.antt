use Rattle.std.proofs.Common.{◌≡◌, ◌≤◌, ◌+◌, min, map, drop}
use Rattle.tptp_reader.specs.Lists.{terms_tree}
use Rattle.tptp_reader.specs.Sizes.{term_size, term_list_size}
use Rattle.tptp_reader.specs.TermView.{the_source_term}
use Rattle.problem_build.specs.Counting.{terms_nodes}
use Rattle.problem_build.proofs.counts.+term_nodes.Given as goal

abbrev pub invariant-terms_nodes-loop-term : goal.invariant-terms_nodes-loop-term
invariant-terms_nodes-loop-term l =
    (l.total ≤ 4000001)
    × (min (l.total + terms_nodes (terms_tree (map the_source_term (drop l.term-index l.term-items)))) 4000001 ≡ min (terms_nodes (terms_tree l.terms)) 4000001)

abbrev pub decreases-term_nodes : goal.decreases-term_nodes
decreases-term_nodes l = term_size (the_source_term l.term.now)

abbrev pub decreases-terms_nodes : goal.decreases-terms_nodes
decreases-terms_nodes l = term_list_size l.terms.now
