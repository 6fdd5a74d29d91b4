use Rattle.std.proofs.Common.{◌≡◌, map, drop}
use Rattle.calculus.specs.Lists.{terms_tree}
use Rattle.calculus.specs.Sizes.{term_size, term_list_size}
use Rattle.calculus.specs.Equality.{terms_eq}
use Rattle.formula_core.specs.TermView.{the_term}
use Rattle.sequent_calc.proofs.atom.+equal.Given as goal

abbrev pub invariant-are_equal_terms-loop-i : goal.invariant-are_equal_terms-loop-i
invariant-are_equal_terms-loop-i l = terms_eq (terms_tree (map the_term (drop l.i l.left))) (terms_tree (map the_term (drop l.i l.right))) ≡ terms_eq (terms_tree l.ts) (terms_tree l.us)

abbrev pub decreases-is_equal_term : goal.decreases-is_equal_term
decreases-is_equal_term l = term_size (the_term l.t.now)

abbrev pub decreases-are_equal_terms : goal.decreases-are_equal_terms
decreases-are_equal_terms l = term_list_size l.ts.now
