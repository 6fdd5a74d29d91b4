use Rattle.std.proofs.Common.{◌≡◌, ◌++◌, map, drop}
use Rattle.calculus.specs.Lists.{terms_tree}
use Rattle.calculus.specs.Sizes.{term_size, term_list_size}
use Rattle.search_theory.specs.TemplateOf.{patterns_of}
use Rattle.formula_core.specs.TermView.{the_term}
use Rattle.matrix_build.proofs.pattern.+pattern_of.Given as goal

abbrev pub invariant-patterns_of-loop-term : goal.invariant-patterns_of-loop-term
invariant-patterns_of-loop-term l = l.all ++ patterns_of l.env (terms_tree (map the_term (drop l.term-index l.term-items))) ≡ patterns_of l.env (terms_tree l.terms)

abbrev pub decreases-pattern_of : goal.decreases-pattern_of
decreases-pattern_of l = term_size (the_term l.term.now)

abbrev pub decreases-patterns_of : goal.decreases-patterns_of
decreases-patterns_of l = term_list_size l.terms.now
