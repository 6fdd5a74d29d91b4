use Rattle.std.proofs.Common.{◌≡◌, ◌≤◌, ◌<◌, ◌++◌, drop, length, map, reverse}
use Rattle.derivation_text.specs.declared.term_writer.Piece.TheVariants.{Further}
use Rattle.derivation_text.proofs.term_writer.push_further.Given as goal

abbrev pub invariant-loop-left : goal.invariant-loop-left
invariant-loop-left l = (l.stack.items ≡ l.initial.stack.items ++ reverse (map Further (drop l.left l.terms))) × (0 < l.left) × (l.left ≤ length l.terms)

abbrev pub decreases-loop-left : goal.decreases-loop-left
decreases-loop-left l = l.left
