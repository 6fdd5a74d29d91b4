use Rattle.std.proofs.Common.{◌≡◌, drop, map}
use Rattle.calculus.specs.Lists.{g_terms_tree}
use Rattle.conversion_theory.specs.Turns.{names_of_terms}
use Rattle.formula_core.specs.GroundLists.{the_g_term, the_terms}
use Rattle.name_order.proofs.holding.next_holds.Given as goal

abbrev pub invariant-loop-term : goal.invariant-loop-term
invariant-loop-term l = names_of_terms (g_terms_tree (map (the_g_term l.table) (drop l.term-index l.terms))) ≡ names_of_terms (g_terms_tree (the_terms l.table l.fn.list))
