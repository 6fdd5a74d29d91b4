use Rattle.std.proofs.Common.{◌≡◌, drop}
use Rattle.problem_build.specs.Walk.{first_absent}
use Rattle.problem_build.proofs.names.first_outside.Given as goal

abbrev pub invariant-loop-item : goal.invariant-loop-item
invariant-loop-item l = first_absent (drop l.item-index l.places) l.reached ≡ first_absent l.places l.reached
