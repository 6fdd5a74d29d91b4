use Rattle.std.proofs.Common.{◌≡◌, ◌≤◌, length, take}
use Rattle.tptp_reader.specs.Expecting as way
use Rattle.tptp_reader.specs.Following.{stack_of}
use Rattle.tptp_reader.proofs.machine.is_body.Given as goal

abbrev pub invariant-loop-depth : goal.invariant-loop-depth
invariant-loop-depth l = record {
  same : way.is_in_body (stack_of (take l.depth l.expected)) ≡ way.is_in_body (stack_of l.expected);
  within : l.depth ≤ length l.expected;
}

abbrev pub decreases-loop-depth : goal.decreases-loop-depth
decreases-loop-depth l = l.depth
