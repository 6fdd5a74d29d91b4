use Rattle.std.proofs.Common.{◌≡◌, take}
use Rattle.name_order.specs.ByNumber.Order.{AreDeep, the_turns}
use Rattle.name_order.specs.ByNumber.ReachedView.{the_all}
use Rattle.name_order.proofs.agenda.deep_turns.Given as goal

abbrev pub invariant-loop-turn : goal.invariant-loop-turn
invariant-loop-turn l = record {
  turns : the_turns l.table l.all.items ≡ the_all l.table (take l.turn-index l.turns);
  deep : AreDeep l.table l.all.items;
}
