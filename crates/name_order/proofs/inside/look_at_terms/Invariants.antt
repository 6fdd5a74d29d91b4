use Rattle.std.proofs.Common.{◌≡◌, ◌≤◌, ◌||◌, map, drop}
use Rattle.calculus.specs.Lists.{g_terms_tree}
use Rattle.conversion_theory.specs.Turns.{Name, names_of_terms}
use Rattle.formula_core.specs.GroundLists.{the_g_term, the_terms}
use Rattle.name_order.specs.ByNumber.Inside.{has, AreNormalNames}
use Rattle.name_order.specs.ByNumber.Seeing.{sees}
use Rattle.tableau_core.specs.Numbered.Ahead.{bound}
use Rattle.name_order.proofs.inside.look_at_terms.Given as goal

abbrev pub invariant-loop-term : goal.invariant-loop-term
invariant-loop-term l = record {
  normal : AreNormalNames l.table l.search.names.keys;
  bound : bound l.search.ahead.keys ≤ l.fn.list.0;
  seen : (n : Name) → (sees l.table l.search n || has n (names_of_terms (g_terms_tree (map (the_g_term l.table) (drop l.term-index l.terms))))) ≡ (sees l.table l.initial.search n || has n (names_of_terms (g_terms_tree (the_terms l.table l.fn.list))));
}
