use Rattle.std.proofs.Common.{◌+◌}
use Rattle.prefix_split.proofs.TriedLaws.{TriedTo}
use Rattle.prefix_split.proofs.proposing.are_tried.Given as goal

abbrev pub invariant-loop-i : goal.invariant-loop-i
invariant-loop-i l = TriedTo l.logic (l.count + l.system.pis) l.lengths l.i
