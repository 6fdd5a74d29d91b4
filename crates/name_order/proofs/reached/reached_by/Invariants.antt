use Rattle.std.proofs.Common.{◌≡◌, map, take}
use Rattle.std.specs.List.{AllByRecursion}
use Rattle.formula_core.specs.GroundLists.{the_value, IsNormalValue}
use Rattle.name_order.proofs.reached.reached_by.Given as goal

abbrev pub invariant-loop-value : goal.invariant-loop-value
invariant-loop-value l = record {
  list : map (the_value l.table) l.all.items ≡ map (the_value l.table) (take l.value-index l.values);
  normal : AllByRecursion (IsNormalValue l.table) l.all.items;
}
