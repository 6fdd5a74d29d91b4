use Rattle.std.proofs.Common.{◌≡◌, ◌≤◌, ◌+◌, length, max, map, drop}
use Rattle.calculus.specs.Lists.{g_terms_tree}
use Rattle.conversion_theory.specs.Depths.{terms_depth}
use Rattle.formula_core.specs.GroundLists.{the_g_term, the_terms}
use Rattle.name_order.proofs.depth.terms_list_depth.Given as goal

abbrev pub invariant-loop-term : goal.invariant-loop-term
invariant-loop-term l = record {
  deepest : max l.depth (terms_depth (g_terms_tree (map (the_g_term l.table) (drop l.term-index l.terms)))) ≡ terms_depth (g_terms_tree (the_terms l.table l.fn.list));
  most : l.depth ≤ length l.known + 1;
}
