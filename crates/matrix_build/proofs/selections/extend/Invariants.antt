use Rattle.std.proofs.Common.{◌≡◌, ◌++◌, take}
use Rattle.matrix_build.proofs.selections.extend.Given as goal

abbrev pub invariant-loop-side : goal.invariant-loop-side
invariant-loop-side l = l.selection ≡ l.initial.selection ++ take l.side-index l.sides
