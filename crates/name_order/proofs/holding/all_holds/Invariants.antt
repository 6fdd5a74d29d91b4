use Rattle.std.proofs.Common.{◌≡◌, length}
use Rattle.name_order.specs.ByNumber.Holding.{AreTold}
use Rattle.name_order.proofs.holding.all_holds.Given as goal

abbrev pub invariant-loop-number : goal.invariant-loop-number
invariant-loop-number l = record {
  count : length l.holds.items ≡ l.number;
  told : AreTold l.table l.holds.items;
}
