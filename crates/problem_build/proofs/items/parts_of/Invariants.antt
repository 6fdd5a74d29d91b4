use Rattle.std.proofs.Common.{◌≡◌, ◌++◌, length, map}
use Rattle.std.specs.Prelude.{reverse}
use Rattle.tptp_reader.specs.SourceView.{the_source}
use Rattle.problem_build.specs.Building.{conjectures, premises}
use Rattle.problem_build.specs.Measuring.{bodies}
use Rattle.problem_build.specs.Passing.{the_passed}
use Rattle.problem_build.proofs.items.parts_of.Given as goal

abbrev pub invariant-loop-item : goal.invariant-loop-item
invariant-loop-item l =
    (map the_source l.parts.premises.items ++ bodies (premises (map the_passed (reverse l.passed.items))) ≡ bodies (premises (map the_passed l.fn.passed.items)))
    × (map the_source l.parts.conjectures.items ++ bodies (conjectures (map the_passed (reverse l.passed.items))) ≡ bodies (conjectures (map the_passed l.fn.passed.items)))

abbrev pub decreases-loop-item : goal.decreases-loop-item
decreases-loop-item l = length l.passed.items
