use Rattle.std.proofs.Common.{◌≡◌, [], drop}
use Rattle.name_order.specs.ByNumber.Order.{the_turns}
use Rattle.name_order.specs.ByNumber.ReachedView.{the_all, AreNormalReached}
use Rattle.name_order.specs.Keeping.{keep_all, turn_eq}
use Rattle.name_order.proofs.agenda.turns_of.Given as goal

abbrev pub invariant-loop-item : goal.invariant-loop-item
invariant-loop-item l = record {
  normal : AreNormalReached l.table l.turns.keys;
  kept : keep_all turn_eq (the_all l.table l.turns.keys) (the_turns l.table (drop l.item-index l.sorted)) ≡ keep_all turn_eq [] (the_turns l.table l.sorted);
}
