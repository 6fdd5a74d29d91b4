use Rattle.std.proofs.Common.{◌≤◌, length}
use Rattle.derivation_check.proofs.told_on_branch.ToldOnBranch.kept.Given as goal

abbrev pub invariant-loop-left : goal.invariant-loop-left
invariant-loop-left l = l.left ≤ length l.self

abbrev pub decreases-loop-left : goal.decreases-loop-left
decreases-loop-left l = l.left
