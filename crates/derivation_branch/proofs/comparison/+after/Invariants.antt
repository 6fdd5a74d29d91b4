use Rattle.std.proofs.Common.{map, drop}
use Rattle.calculus.specs.Lists.{terms_tree}
use Rattle.calculus.specs.Sizes.{term_size, terms_size}
use Rattle.formula_core.specs.TermView.{the_term}
use Rattle.derivation_branch.specs.EntryView.{term_under}
use Rattle.derivation_branch.proofs.FollowingLaws.{IsAfter}
use Rattle.formula_text.specs.Rows.{rows_of}
use Rattle.derivation_branch.proofs.comparison.+after.Given as goal

abbrev pub invariant-after_terms-loop-t : goal.invariant-after_terms-loop-t
invariant-after_terms-loop-t l = IsAfter l.items (rows_of (terms_tree (map (term_under l.substitutions l.i) l.ts)))
    l.rest (rows_of (terms_tree (map (term_under l.substitutions l.i) (map the_term (drop l.t-index l.t-items)))))

abbrev pub decreases-after_term : goal.decreases-after_term
decreases-after_term l = term_size (term_under l.substitutions.now l.i (the_term l.t.now))

abbrev pub decreases-after_terms : goal.decreases-after_terms
decreases-after_terms l = terms_size (terms_tree (map (term_under l.substitutions.now l.i) l.ts.now))
