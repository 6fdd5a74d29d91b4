use Rattle.std.proofs.Common.{◌≡◌}
use Rattle.trim_theory.specs.Writing.{grown_by}
use Rattle.derivation_trim.proofs.writing.grow_by.Given as goal

abbrev pub invariant-loop-left : goal.invariant-loop-left
invariant-loop-left l = grown_by l.left l.fn.is_left l.table.items ≡ grown_by l.fn.added l.fn.is_left l.fn.table.items

abbrev pub decreases-loop-left : goal.decreases-loop-left
decreases-loop-left l = l.left
