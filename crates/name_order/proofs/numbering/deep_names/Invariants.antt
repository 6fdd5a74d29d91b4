use Rattle.std.proofs.Common.{◌≡◌, map, take}
use Rattle.name_order.specs.ByNumber.NameView.{the_name}
use Rattle.name_order.specs.ByNumber.Order.{HaveDepths, the_names}
use Rattle.name_order.proofs.numbering.deep_names.Given as goal

abbrev pub invariant-loop-name : goal.invariant-loop-name
invariant-loop-name l = record {
  names : the_names l.table l.all.items ≡ map (the_name l.table) (take l.name-index l.names);
  depths : HaveDepths l.table l.all.items;
}
