use Rattle.std.proofs.Common.{◌≡◌, take}
use Rattle.tableau_reading.proofs.reading.copy_selection.Given as goal

abbrev pub invariant-loop-side : goal.invariant-loop-side
invariant-loop-side l = l.selection ≡ take l.side-index l.sides
