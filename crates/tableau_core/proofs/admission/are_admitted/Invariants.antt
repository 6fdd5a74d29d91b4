use Rattle.std.proofs.Common.{◌≡◌, map, drop}
use Rattle.calculus.specs.Lists.{g_terms_tree}
use Rattle.calculus.specs.Skolem.{are_admitted}
use Rattle.formula_core.specs.GroundLists.{the_g_term, the_terms}
use Rattle.tableau_core.proofs.admission.are_admitted.Given as goal

abbrev pub invariant-loop-term : goal.invariant-loop-term
invariant-loop-term l = are_admitted l.problem (g_terms_tree (map (the_g_term l.table) (drop l.term-index l.terms))) ≡ are_admitted l.problem (g_terms_tree (the_terms l.table l.fn.list))
