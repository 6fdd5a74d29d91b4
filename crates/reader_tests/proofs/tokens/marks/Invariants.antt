use Rattle.std.proofs.Common.{◌≤◌, ◌-◌, length}
use Rattle.reader_tests.proofs.tokens.marks.Given as goal

abbrev pub invariant-loop-token : goal.invariant-loop-token
invariant-loop-token l = l.from ≤ length l.text

abbrev pub decreases-loop-token : goal.decreases-loop-token
decreases-loop-token l = length l.text - l.from
