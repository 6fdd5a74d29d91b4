use Rattle.std.proofs.Common.{◌≡◌, drop}
use Rattle.name_order.specs.ByNumber.ReachedView.{the_all, AreNormalReached}
use Rattle.name_order.specs.Keeping.{keep_all, turn_eq}
use Rattle.name_order.proofs.agenda.keep_list.Given as goal

abbrev pub invariant-loop-turn : goal.invariant-loop-turn
invariant-loop-turn l = record {
  normal : AreNormalReached l.table l.kept.keys;
  kept : keep_all turn_eq (the_all l.table l.kept.keys) (the_all l.table (drop l.turn-index l.list)) ≡ keep_all turn_eq (the_all l.table l.initial.kept.keys) (the_all l.table l.list);
}
