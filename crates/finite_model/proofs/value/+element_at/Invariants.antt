use Rattle.std.proofs.Common.{◌≡◌, ℕ, map, drop, min, reverse}
use Rattle.calculus.specs.Lists.{terms_tree}
use Rattle.calculus.specs.Sizes.{term_size, term_list_size}
use Rattle.calculus.specs.Structures.{place_from, place_of, term_values}
use Rattle.formula_core.specs.TermView.{the_term}
use Rattle.finite_model.proofs.value.+element_at.Given as goal

abbrev pub decreases-element_at : goal.decreases-element_at
decreases-element_at l = term_size (the_term l.term.now)

abbrev pub decreases-place_at : goal.decreases-place_at
decreases-place_at l = term_list_size l.args.now

-- the place so far is this one, as far as numbers go, and the terms that are left lead from it to the whole place
abbrev pub invariant-place_at-loop-arg : goal.invariant-place_at-loop-arg
invariant-place_at-loop-arg l =
    (p : ℕ) × (l.place ≡ min p 18446744073709551615)
    × (place_from l.structure.elements p (term_values l.structure (reverse l.env) (terms_tree (map the_term (drop l.arg-index l.arg-items)))) ≡ place_of l.structure (term_values l.structure (reverse l.env) (terms_tree l.args)))
