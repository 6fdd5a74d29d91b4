use Rattle.std.proofs.Common.{◌≡◌, ◌≤◌, ◌&&◌, map, drop}
use Rattle.calculus.specs.Lists.{g_terms_tree}
use Rattle.calculus.specs.Skolem.{are_allowed}
use Rattle.formula_core.specs.GroundLists.{the_g_term}
use Rattle.tableau_core.specs.Numbered.Ahead.{are_ahead_allowed, bound, is_list_allowed}
use Rattle.tableau_core.specs.Numbered.SpotView.{the_mark_at}
use Rattle.tableau_core.proofs.allowance.are_items_allowed.Given as goal

abbrev pub invariant-loop-term : goal.invariant-loop-term
invariant-loop-term l = record {
  allowed : (are_ahead_allowed l.problem (map (the_mark_at l.table) l.at) l.table l.ahead.keys && are_allowed l.problem (map (the_mark_at l.table) l.at) (g_terms_tree (map (the_g_term l.table) (drop l.term-index l.terms)))) ≡ (are_ahead_allowed l.problem (map (the_mark_at l.table) l.at) l.table l.initial.ahead.keys && is_list_allowed l.problem (map (the_mark_at l.table) l.at) l.table l.fn.list.0);
  bound : bound l.ahead.keys ≤ l.fn.list.0;
}
