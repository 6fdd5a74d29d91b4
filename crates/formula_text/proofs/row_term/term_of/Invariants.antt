use Rattle.std.proofs.Common.{◌≡◌, ◌≤◌, drop, length}
use Rattle.formula_text.specs.Rows.{terms_in}
use Rattle.formula_text.specs.Standing.{standing}
use Rattle.formula_text.proofs.row_term.term_of.Given as goal

abbrev pub invariant-loop-left : goal.invariant-loop-left
invariant-loop-left l = (standing l.stack.items ≡ terms_in (drop l.left l.items)) × (l.left ≤ length l.items)

abbrev pub decreases-loop-left : goal.decreases-loop-left
decreases-loop-left l = l.left
