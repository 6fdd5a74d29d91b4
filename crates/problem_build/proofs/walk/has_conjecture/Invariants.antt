use Rattle.std.proofs.Common.{◌≡◌, drop, map}
use Rattle.std.specs.List.{list_any}
use Rattle.problem_build.specs.Walk.{Passed}
use Rattle.problem_build.specs.Passing.{the_passed}
use Rattle.problem_build.proofs.walk.has_conjecture.Given as goal

abbrev pub invariant-loop-item : goal.invariant-loop-item
invariant-loop-item l = list_any (λ (q : Passed). q.is_conjecture) (map the_passed (drop l.item-index l.passed)) ≡ list_any (λ (q : Passed). q.is_conjecture) (map the_passed l.passed)
