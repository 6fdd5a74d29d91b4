use Rattle.std.proofs.Common.{◌≡◌, map, drop}
use Rattle.calculus.specs.Lists.{terms_tree}
use Rattle.calculus.specs.Sizes.{term_size, term_list_size}
use Rattle.calculus.specs.Substitution.{any_leaf_of}
use Rattle.formula_core.specs.TermView.{the_term}
use Rattle.sequent_calc.specs.LeafView.{the_test}
use Rattle.sequent_calc.proofs.leaf.+leaves.Given as goal

abbrev pub invariant-any_leaf_of-loop-item : goal.invariant-any_leaf_of-loop-item
invariant-any_leaf_of-loop-item l = any_leaf_of (the_test l.test) (terms_tree (map the_term (drop l.item-index l.item-items))) ≡ any_leaf_of (the_test l.test) (terms_tree l.ts)

abbrev pub decreases-any_leaf : goal.decreases-any_leaf
decreases-any_leaf l = term_size (the_term l.t.now)

abbrev pub decreases-any_leaf_of : goal.decreases-any_leaf_of
decreases-any_leaf_of l = term_list_size l.ts.now
