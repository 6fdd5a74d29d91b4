use Rattle.std.proofs.Common.{◌≡◌, ◌++◌, take}
use Rattle.matrix_build.specs.Behind.{behind}
use Rattle.matrix_build.proofs.selections.add_joined.Given as goal

abbrev pub invariant-loop-second : goal.invariant-loop-second
invariant-loop-second l = l.all.items ≡ l.initial.all.items ++ behind l.first (take l.second-index l.seconds)
