use Rattle.calculus.specs.Sizes.{term_size, term_list_size}
use Rattle.formula_core.specs.TermView.{the_term}
use Rattle.sequent_convert.proofs.literals.+numbers.Given as goal

abbrev pub decreases-put_term : goal.decreases-put_term
decreases-put_term l = term_size (the_term l.term.now)

abbrev pub decreases-put_terms : goal.decreases-put_terms
decreases-put_terms l = term_list_size l.terms.now
