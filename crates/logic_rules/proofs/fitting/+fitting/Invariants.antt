use Rattle.std.proofs.Common.{◌≡◌, map, drop}
use Rattle.calculus.specs.Lists.{terms_tree}
use Rattle.calculus.specs.Problems.{terms_fit_in}
use Rattle.calculus.specs.Sizes.{term_size, term_list_size}
use Rattle.formula_core.specs.TermView.{the_term}
use Rattle.logic_rules.proofs.fitting.+fitting.Given as goal

abbrev pub decreases-term_fits : goal.decreases-term_fits
decreases-term_fits l = term_size (the_term l.term.now)

abbrev pub decreases-terms_fit : goal.decreases-terms_fit
decreases-terms_fit l = term_list_size l.terms.now

abbrev pub invariant-terms_fit-loop-term : goal.invariant-terms_fit-loop-term
invariant-terms_fit-loop-term l = terms_fit_in l.symbols l.depth (terms_tree (map the_term (drop l.term-index l.term-items))) ≡ terms_fit_in l.symbols l.depth (terms_tree l.terms)
