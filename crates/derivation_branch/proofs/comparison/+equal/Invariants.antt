use Rattle.std.proofs.Common.{◌≡◌, map, drop}
use Rattle.calculus.specs.Lists.{terms_tree}
use Rattle.calculus.specs.Sizes.{term_size, terms_size}
use Rattle.calculus.specs.Equality.{terms_eq}
use Rattle.formula_core.specs.TermView.{the_term}
use Rattle.derivation_branch.specs.EntryView.{term_under}
use Rattle.derivation_branch.proofs.comparison.+equal.Given as goal

abbrev pub invariant-are_equal_terms-loop-k : goal.invariant-are_equal_terms-loop-k
invariant-are_equal_terms-loop-k l = terms_eq (terms_tree (map (term_under l.substitutions l.i) (map the_term (drop l.k l.left)))) (terms_tree (map (term_under l.substitutions l.j) (map the_term (drop l.k l.right))))
    ≡ terms_eq (terms_tree (map (term_under l.substitutions l.i) l.ts)) (terms_tree (map (term_under l.substitutions l.j) l.us))

abbrev pub decreases-is_equal_term : goal.decreases-is_equal_term
decreases-is_equal_term l = term_size (term_under l.substitutions.now l.i (the_term l.t.now))

abbrev pub decreases-are_equal_terms : goal.decreases-are_equal_terms
decreases-are_equal_terms l = terms_size (terms_tree (map (term_under l.substitutions.now l.i) l.ts.now))
