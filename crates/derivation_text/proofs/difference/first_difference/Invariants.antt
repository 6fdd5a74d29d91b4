use Rattle.std.proofs.Common.{◌≤◌, ◌+◌}
use Rattle.derivation_text.proofs.DifferenceLaws.{IsSameTo}
use Rattle.derivation_text.proofs.difference.first_difference.Given as goal

abbrev pub invariant-loop-i : goal.invariant-loop-i
invariant-loop-i l = IsSameTo l.first l.second l.i l.line × (l.line ≤ l.i + 1)
