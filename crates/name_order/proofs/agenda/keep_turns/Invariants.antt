use Rattle.std.proofs.Common.{◌≡◌, [], drop}
use Rattle.name_order.specs.Arranged.{joined}
use Rattle.name_order.specs.ByNumber.Collected.{the_lists}
use Rattle.name_order.specs.ByNumber.ReachedView.{the_all, AreNormalReached}
use Rattle.name_order.specs.Keeping.{keep_all, turn_eq}
use Rattle.name_order.proofs.agenda.keep_turns.Given as goal

abbrev pub invariant-loop-list : goal.invariant-loop-list
invariant-loop-list l = record {
  normal : AreNormalReached l.table l.kept.keys;
  kept : keep_all turn_eq (the_all l.table l.kept.keys) (joined (the_lists l.table (drop l.list-index l.lists))) ≡ keep_all turn_eq [] (joined (the_lists l.table l.lists));
}
