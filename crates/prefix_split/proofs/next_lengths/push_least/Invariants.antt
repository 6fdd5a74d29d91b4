use Rattle.std.proofs.Common.{◌≡◌, ◌*◌, ◌≤◌, ◌++◌}
use Rattle.prefix_split.specs.LengthLists.{least_list}
use Rattle.prefix_split.proofs.next_lengths.push_least.Given as goal

abbrev pub invariant-loop-left : goal.invariant-loop-left
invariant-loop-left l = record {
  whole : l.lengths.items ++ least_list l.range.least l.range.spread l.left l.above ≡ l.fn.lengths.items ++ least_list l.range.least l.range.spread l.fn.count l.fn.above;
  room : l.above ≤ l.left * l.range.spread;
}

abbrev pub decreases-loop-left : goal.decreases-loop-left
decreases-loop-left l = l.left
