use Rattle.std.proofs.Common.{◌≡◌, ◌≤◌, length, take}
use Rattle.tptp_reader.specs.Expecting as way
use Rattle.tptp_reader.specs.Following.{AreWithin, stack_of}
use Rattle.tptp_reader.specs.TerminalView.{the_terminal}
use Rattle.tptp_reader.proofs.machine.find_move.Given as goal

abbrev pub invariant-loop-depth : goal.invariant-loop-depth
invariant-loop-depth l = record {
  same : way.step l.modal (stack_of (take l.depth l.expected)) (the_terminal l.x) ≡ way.step l.modal (stack_of l.expected) (the_terminal l.x);
  within : l.depth ≤ length l.expected;
  shallow : AreWithin 501 (stack_of (take l.depth l.expected));
}

abbrev pub decreases-loop-depth : goal.decreases-loop-depth
decreases-loop-depth l = l.depth
