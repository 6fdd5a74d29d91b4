use Rattle.std.proofs.Common.{◌≡◌, ◌++◌, length, map}
use Rattle.calculus.specs.TableauText.{side_text}
use Rattle.tableau_text.proofs.line_reader.read_letters.Given as goal

abbrev pub invariant-loop-side : goal.invariant-loop-side
invariant-loop-side l = l.fn.text ≡ map side_text l.sides ++ l.rest

abbrev pub decreases-loop-side : goal.decreases-loop-side
decreases-loop-side l = length l.rest
