use Rattle.std.proofs.Common.{◌≡◌, drop, map}
use Rattle.tptp_reader.specs.Lists.{terms_tree}
use Rattle.tptp_reader.specs.Sizes.{term_size, term_list_size}
use Rattle.tptp_reader.specs.TermView.{the_source_term}
use Rattle.problem_build.specs.Adding.{with_new}
use Rattle.problem_build.specs.Expansion.{same_name, unbound, variables_in_all}
use Rattle.problem_build.proofs.variables.+add_of_term.Given as goal

abbrev pub invariant-add_of_terms-loop-term : goal.invariant-add_of_terms-loop-term
invariant-add_of_terms-loop-term l =
    with_new same_name l.found (unbound l.bound (variables_in_all (terms_tree (map the_source_term (drop l.term-index l.term-items)))))
    ≡ with_new same_name l.fn.found (unbound l.bound (variables_in_all (terms_tree l.terms)))

abbrev pub decreases-add_of_term : goal.decreases-add_of_term
decreases-add_of_term l = term_size (the_source_term l.term.now)

abbrev pub decreases-add_of_terms : goal.decreases-add_of_terms
decreases-add_of_terms l = term_list_size l.terms.now
