use Rattle.std.proofs.Common.{◌≡◌, ◌^◌, ◌≤◌}
use Rattle.finite_model.proofs.head.table_size.Given as goal

abbrev pub invariant-loop-argument : goal.invariant-loop-argument
invariant-loop-argument l = record {
  size : l.size ≡ l.elements ^ l._argument;
  most : l.size ≤ 1000000;
}
