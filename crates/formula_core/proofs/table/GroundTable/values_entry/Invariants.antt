use Rattle.std.proofs.Common.{◌≡◌, map, take}
use Rattle.std.specs.List.{AllByRecursion}
use Rattle.formula_core.specs.GroundLists.{the_value, IsNormalValue}
use Rattle.formula_core.proofs.table.GroundTable.values_entry.Given as goal

abbrev pub invariant-loop-item : goal.invariant-loop-item
invariant-loop-item l = record {
  list : map (the_value l.self) l.normal.items ≡ map (the_value l.self) (take l.item-index l.items);
  normal : AllByRecursion (IsNormalValue l.self) l.normal.items;
}
