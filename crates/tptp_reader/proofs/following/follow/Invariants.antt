use Rattle.std.proofs.Common.{◌≤◌, ◌-◌, length}
use Rattle.tptp_reader.specs.Following.{AreWithin, Ran, stack_now}
use Rattle.tptp_reader.proofs.following.follow.Given as goal

abbrev pub invariant-loop-piece : goal.invariant-loop-piece
invariant-loop-piece l = record {
  ran : Ran l.modal l.text l.fn.from (stack_now l.fn.machine) (stack_now l.machine) l.place;
  within : l.place ≤ length l.text;
  shallow : AreWithin 501 (stack_now l.machine);
}

abbrev pub decreases-loop-piece : goal.decreases-loop-piece
decreases-loop-piece l = length l.text - l.place
