use Rattle.std.proofs.Common.{map}
use Rattle.sequent_convert.specs.ByNumber.NodeView.{the_node}
use Rattle.sequent_convert.specs.ByNumber.RunView.{IsSeen, the_lists, the_run, the_source}
use Rattle.sequent_convert.specs.State.{IsRun, room_of}
use Rattle.sequent_convert.proofs.steps_by.Given as goal

abbrev pub invariant-loop-run : goal.invariant-loop-run
invariant-loop-run l = IsRun (the_source l.source) (the_run l.source l.run) × IsSeen (map (the_node (the_lists l.source)) l.run.branch.nodes.items) l.run.seen

abbrev pub decreases-loop-run : goal.decreases-loop-run
decreases-loop-run l = room_of (the_source l.source) (the_run l.source l.run)
