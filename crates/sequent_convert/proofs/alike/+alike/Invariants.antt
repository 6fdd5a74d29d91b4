use Rattle.std.proofs.Common.{◌≡◌, map, take}
use Rattle.calculus.specs.Instances.{ground_of}
use Rattle.calculus.specs.Sizes.{term_size, term_list_size}
use Rattle.formula_core.specs.GroundLists.{the_g_term}
use Rattle.formula_core.specs.TermView.{the_term}
use Rattle.sequent_convert.proofs.alike.+alike.Given as goal

abbrev pub invariant-are_alike-loop-i : goal.invariant-are_alike-loop-i
invariant-are_alike-loop-i l = map (λ t. ground_of (map (the_g_term l.table) l.env) (the_term t)) (take l.i l.terms) ≡ map (λ u. ground_of (map (the_g_term l.table) l.other) (the_term u)) (take l.i l.patterns)

abbrev pub decreases-is_alike : goal.decreases-is_alike
decreases-is_alike l = term_size (the_term l.term.now)

abbrev pub decreases-are_alike : goal.decreases-are_alike
decreases-are_alike l = term_list_size l.terms.now
