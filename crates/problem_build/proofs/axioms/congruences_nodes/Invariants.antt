use Rattle.std.proofs.Common.{◌≡◌, ◌≤◌, Some, drop}
use Rattle.problem_build.specs.EqualityAxioms.{for_each}
use Rattle.problem_build.specs.Measuring.{both_nodes, congruence_of, measured}
use Rattle.problem_build.proofs.axioms.congruences_nodes.Given as goal

abbrev pub invariant-loop-number : goal.invariant-loop-number
invariant-loop-number l =
    (l.total ≤ 4000001)
    × (both_nodes (Some l.total) (measured (for_each (congruence_of l.sort l.symbols) l.number (drop l.number l.symbols)))
    ≡ measured (for_each (congruence_of l.sort l.symbols) 0 l.symbols))
