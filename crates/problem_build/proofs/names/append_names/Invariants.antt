use Rattle.std.proofs.Common.{◌≡◌, ◌++◌, length}
use Rattle.std.specs.Prelude.{reverse}
use Rattle.problem_build.proofs.names.append_names.Given as goal

abbrev pub invariant-loop-name : goal.invariant-loop-name
invariant-loop-name l = l.names.items ++ reverse l.more.items ≡ l.fn.names.items ++ l.fn.more.items

abbrev pub decreases-loop-name : goal.decreases-loop-name
decreases-loop-name l = length l.more.items
