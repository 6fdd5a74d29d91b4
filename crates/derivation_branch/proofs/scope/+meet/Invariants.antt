use Rattle.std.proofs.Common.{◌≡◌, ◌||◌, ℕ, drop, get_or, map, true}
use Rattle.calculus.specs.Lists.{terms_tree}
use Rattle.calculus.specs.Sizes.{term_size, term_list_size}
use Rattle.calculus.specs.Substitution.{any_leaf_of}
use Rattle.derivation_branch.specs.Occurring.{is_variable}
use Rattle.formula_core.specs.TermView.{the_term}
use Rattle.derivation_branch.proofs.scope.+meet.Given as goal

abbrev pub invariant-meet_in_all-loop-item : goal.invariant-meet_in_all-loop-item
invariant-meet_in_all-loop-item l = (d : ℕ) → (get_or l.scope d true || any_leaf_of (is_variable d) (terms_tree (map the_term (drop l.item-index l.item-items)))) ≡ (get_or l.initial.scope d true || any_leaf_of (is_variable d) (terms_tree l.ts))

abbrev pub decreases-meet_in : goal.decreases-meet_in
decreases-meet_in l = term_size (the_term l.t.now)

abbrev pub decreases-meet_in_all : goal.decreases-meet_in_all
decreases-meet_in_all l = term_list_size l.ts.now
