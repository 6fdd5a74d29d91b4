use Rattle.std.proofs.Common.{◌≡◌, map, take}
use Rattle.std.specs.List.{AllByRecursion}
use Rattle.formula_core.specs.GroundLists.{the_g_term, IsNormalTerm}
use Rattle.formula_core.proofs.table.GroundTable.terms_entry.Given as goal

abbrev pub invariant-loop-item : goal.invariant-loop-item
invariant-loop-item l = record {
  list : map (the_g_term l.self) l.normal.items ≡ map (the_g_term l.self) (take l.item-index l.items);
  normal : AllByRecursion (IsNormalTerm l.self) l.normal.items;
}
