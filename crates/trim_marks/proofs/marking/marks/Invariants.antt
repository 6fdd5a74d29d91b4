use Rattle.std.proofs.Common.{◌≡◌, length}
use Rattle.trim_theory.specs.Marking.{run, at_start}
use Rattle.trim_marks.specs.MarkingView.{IsSkipping, the_state}
use Rattle.trim_marks.proofs.marking.marks.Given as goal

abbrev pub invariant-loop-pass : goal.invariant-loop-pass
invariant-loop-pass l = (run l.waiting.items (the_state l.marking) ≡ run l.fn.passes.items at_start) × IsSkipping l.marking.skips.items l.marking.done.items

abbrev pub decreases-loop-pass : goal.decreases-loop-pass
decreases-loop-pass l = length l.waiting.items
