use Rattle.std.proofs.Common.{◌≡◌, map, take}
use Rattle.calculus.specs.Instances.{ground_of}
use Rattle.calculus.specs.Sizes.{term_size, term_list_size}
use Rattle.formula_core.specs.GroundLists.{the_g_term}
use Rattle.formula_core.specs.TermView.{the_term}
use Rattle.tableau_core.specs.Numbered.SpotView.{the_bound}
use Rattle.tableau_core.proofs.pattern.+instance_of_terms.Given as goal

abbrev pub invariant-are_instances-loop-i : goal.invariant-are_instances-loop-i
invariant-are_instances-loop-i l = map (λ t. ground_of (map (the_bound l.table) l.env) (the_term t)) (take l.i l.patterns) ≡ map (the_g_term l.table) (take l.i l.terms)

abbrev pub decreases-is_instance : goal.decreases-is_instance
decreases-is_instance l = term_size (the_term l.pattern.now)

abbrev pub decreases-are_instances : goal.decreases-are_instances
decreases-are_instances l = term_list_size l.patterns.now
