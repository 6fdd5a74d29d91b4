use Rattle.std.proofs.Common.{◌≡◌, [], drop}
use Rattle.problem_build.specs.Adding.{with_new}
use Rattle.problem_build.specs.Expansion.{same_name}
use Rattle.problem_build.proofs.name_set.set_of.Given as goal

abbrev pub invariant-loop-name : goal.invariant-loop-name
invariant-loop-name l = with_new same_name l.set (drop l.name-index l.names) ≡ with_new same_name [] l.names
