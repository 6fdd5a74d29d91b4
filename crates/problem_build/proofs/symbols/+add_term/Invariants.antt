use Rattle.std.proofs.Common.{◌≡◌, drop, map}
use Rattle.calculus.specs.Equality.{symbol_eq}
use Rattle.tptp_reader.specs.Lists.{terms_tree}
use Rattle.tptp_reader.specs.Sizes.{term_size, term_list_size}
use Rattle.tptp_reader.specs.TermView.{the_source_term}
use Rattle.problem_build.specs.Adding.{with_new}
use Rattle.problem_build.specs.Expansion.{terms_symbols}
use Rattle.problem_build.proofs.symbols.+add_term.Given as goal

abbrev pub invariant-add_terms-loop-term : goal.invariant-add_terms-loop-term
invariant-add_terms-loop-term l =
    with_new symbol_eq l.symbols (terms_symbols (terms_tree (map the_source_term (drop l.term-index l.term-items))))
    ≡ with_new symbol_eq l.fn.symbols (terms_symbols (terms_tree l.terms))

abbrev pub decreases-add_term : goal.decreases-add_term
decreases-add_term l = term_size (the_source_term l.term.now)

abbrev pub decreases-add_terms : goal.decreases-add_terms
decreases-add_terms l = term_list_size l.terms.now
