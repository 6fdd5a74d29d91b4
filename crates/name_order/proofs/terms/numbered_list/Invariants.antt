use Rattle.std.proofs.Common.{◌≡◌, List, map, take}
use Rattle.std.specs.List.{AllByRecursion}
use Rattle.calculus.specs.Syntax.{Term}
use Rattle.conversion_theory.specs.Numbering.{number_of, numbered_term}
use Rattle.formula_core.specs.GroundLists.{the_g_term}
use Rattle.name_order.specs.ByNumber.Inside.{the_names}
use Rattle.name_order.specs.ByNumber.Numbered.{AreNumbered}
use Rattle.term_table.specs.Table.{IsBelow, the_table_term}
use Rattle.name_order.proofs.terms.numbered_list.Given as goal

abbrev pub invariant-loop-term : goal.invariant-loop-term
invariant-loop-term l = record {
  below : AllByRecursion (IsBelow l.below) l.terms.items;
  terms : (lists : List (List Term)) → AreNumbered (number_of (the_names l.table l.names.keys)) l.table l.below lists → map (the_table_term lists) l.terms.items ≡ map (numbered_term (number_of (the_names l.table l.names.keys))) (map (the_g_term l.table) (take l.term-index l.given));
}
