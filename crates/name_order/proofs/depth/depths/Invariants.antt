use Rattle.std.proofs.Common.{◌≡◌, length}
use Rattle.name_order.specs.ByNumber.Depths.{KnowsDepths}
use Rattle.name_order.proofs.depth.depths.Given as goal

abbrev pub invariant-loop-number : goal.invariant-loop-number
invariant-loop-number l = record {
  knows : KnowsDepths l.table l.known.items;
  count : length l.known.items ≡ l.number;
}
