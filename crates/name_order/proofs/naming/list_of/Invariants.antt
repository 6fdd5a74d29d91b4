use Rattle.std.proofs.Common.{◌≡◌, map, take}
use Rattle.std.specs.List.{AllByRecursion}
use Rattle.formula_core.specs.GroundLists.{the_value, IsNormalValue}
use Rattle.name_order.proofs.naming.list_of.Given as goal

abbrev pub invariant-loop-value : goal.invariant-loop-value
invariant-loop-value l = record {
  list : map (the_value l.source) l.normal.items ≡ map (the_value l.source) (take l.value-index l.values);
  normal : AllByRecursion (IsNormalValue l.source) l.normal.items;
}
