use Rattle.std.proofs.Common.{◌≡◌, [], map, drop}
use Rattle.conversion_theory.specs.Numbering.{name_eq}
use Rattle.name_order.specs.ByNumber.Inside.{AreNormalNames}
use Rattle.name_order.specs.ByNumber.NameView.{the_name}
use Rattle.name_order.specs.ByNumber.Order.{the_names}
use Rattle.name_order.specs.Keeping.{keep_all}
use Rattle.name_order.proofs.numbering.names_of.Given as goal

abbrev pub invariant-loop-item : goal.invariant-loop-item
invariant-loop-item l = record {
  normal : AreNormalNames l.table l.names.keys;
  kept : keep_all name_eq (map (the_name l.table) l.names.keys) (the_names l.table (drop l.item-index l.sorted)) ≡ keep_all name_eq [] (the_names l.table l.sorted);
}
