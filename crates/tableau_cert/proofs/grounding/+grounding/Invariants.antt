use Rattle.std.proofs.Common.{◌≡◌, map, take}
use Rattle.std.specs.List.{AllByRecursion}
use Rattle.calculus.specs.Instances.{ground_of}
use Rattle.calculus.specs.Sizes.{term_size, term_list_size}
use Rattle.formula_core.specs.GroundLists.{IsGrown, IsNormalTerm, the_g_term}
use Rattle.formula_core.specs.TermView.{the_term}
use Rattle.tableau_cert.specs.WayView.{bound_terms}
use Rattle.tableau_cert.proofs.grounding.+grounding.Given as goal

-- The terms so far stand for the instances, also when the table has grown.

abbrev pub invariant-ground_terms-loop-i : goal.invariant-ground_terms-loop-i
invariant-ground_terms-loop-i l = record {
  same : map (the_g_term l.table) l.all.items ≡ map (λ t. ground_of (bound_terms l.initial.table l.bindings) (the_term t)) (take l.i l.items);
  normal : AllByRecursion (IsNormalTerm l.table) l.all.items;
  grown : IsGrown l.initial.table l.table;
}

abbrev pub decreases-ground_term : goal.decreases-ground_term
decreases-ground_term l = term_size (the_term l.term.now)

abbrev pub decreases-ground_terms : goal.decreases-ground_terms
decreases-ground_terms l = term_list_size l.terms.now
