use Rattle.std.proofs.Common.{◌≡◌, [], drop}
use Rattle.problem_build.specs.Adding.{with_new}
use Rattle.problem_build.specs.Expansion.{same_name}
use Rattle.problem_build.specs.Walk.{names_of}
use Rattle.problem_build.proofs.name_set.set_of_places.Given as goal

abbrev pub invariant-loop-item : goal.invariant-loop-item
invariant-loop-item l = with_new same_name l.set (names_of (drop l.item-index l.places)) ≡ with_new same_name [] (names_of l.places)
