use Rattle.std.proofs.Common.{◌-◌, ◌≤◌, List, ℕ}
use Rattle.trim_theory.specs.Marking.{counts_of, state, with_undone}
use Rattle.trim_marks.specs.MarkingView.{IsSkipping}
use Rattle.trim_marks.proofs.SkipLaws.{IsReached}
use Rattle.trim_marks.proofs.marking.leave_out_between.Given as goal

abbrev pub invariant-loop-place : goal.invariant-loop-place
invariant-loop-place l = ((saved starts : List ℕ) → IsReached saved starts l.fn.to (counts_of l.counts.items) l.done.items (with_undone l.fn.from (l.fn.to - l.fn.from) (state (counts_of l.fn.counts.items) saved starts l.fn.done.items)) l.fn.from l.place) × IsSkipping l.skips.items l.done.items × (l.fn.from ≤ l.place)

abbrev pub decreases-loop-place : goal.decreases-loop-place
decreases-loop-place l = l.end - l.place
