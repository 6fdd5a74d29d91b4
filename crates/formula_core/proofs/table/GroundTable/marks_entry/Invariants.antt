use Rattle.std.proofs.Common.{◌≡◌, map, take}
use Rattle.std.specs.List.{AllByRecursion}
use Rattle.formula_core.specs.GroundLists.{the_mark, IsNormalMark}
use Rattle.formula_core.proofs.table.GroundTable.marks_entry.Given as goal

abbrev pub invariant-loop-item : goal.invariant-loop-item
invariant-loop-item l = record {
  list : map (the_mark l.self) l.normal.items ≡ map (the_mark l.self) (take l.item-index l.items);
  normal : AllByRecursion (IsNormalMark l.self) l.normal.items;
}
