use Rattle.std.proofs.Common.{◌≡◌, ℕ, suc, ◌-◌, length}
use Rattle.trim_theory.specs.Marking.{counts_of}
use Rattle.trim_marks.proofs.counts.make_room.Given as goal

abbrev pub invariant-loop-counts : goal.invariant-loop-counts
invariant-loop-counts l = counts_of l.counts.items ≡ counts_of l.fn.counts.items

abbrev pub decreases-loop-counts : goal.decreases-loop-counts
decreases-loop-counts l = suc l.place - length l.counts.items
