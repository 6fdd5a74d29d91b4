use Rattle.std.proofs.Common.{◌≡◌, ◌+◌, ◌-◌, ◌≤◌, length, take}
use Rattle.std.specs.Prelude.{reverse}
use Rattle.problem_build.specs.Expansion.{place_of, same_name}
use Rattle.problem_build.proofs.expansion.variable_place.Given as goal

abbrev pub invariant-loop-left : goal.invariant-loop-left
invariant-loop-left l =
    (l.left ≤ length l.scope)
    × (length l.scope - l.left + place_of (same_name l.name) (reverse (take l.left l.scope)) ≡ place_of (same_name l.name) (reverse l.scope))

abbrev pub decreases-loop-left : goal.decreases-loop-left
decreases-loop-left l = l.left
