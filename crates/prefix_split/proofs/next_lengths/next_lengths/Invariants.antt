use Rattle.std.proofs.Common.{length}
use Rattle.prefix_split.specs.LengthLists.{IsTakenOff}
use Rattle.prefix_split.proofs.next_lengths.next_lengths.Given as goal

abbrev pub invariant-loop-length : goal.invariant-loop-length
invariant-loop-length l = IsTakenOff l.range.least l.range.spread l.fn.lengths.items l.lengths.items l.count l.above

abbrev pub decreases-loop-length : goal.decreases-loop-length
decreases-loop-length l = length l.lengths.items
