use Rattle.std.proofs.Common.{◌≡◌, ◌≤◌, ◌++◌, drop, length, reverse}
use Rattle.term_table.proofs.walk.push_terms.Given as goal

abbrev pub invariant-loop-left : goal.invariant-loop-left
invariant-loop-left l = (l.stack.items ≡ l.initial.stack.items ++ reverse (drop l.left l.terms)) × (l.left ≤ length l.terms)

abbrev pub decreases-loop-left : goal.decreases-loop-left
decreases-loop-left l = l.left
