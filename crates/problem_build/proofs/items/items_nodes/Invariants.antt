use Rattle.std.proofs.Common.{◌≡◌, ◌≤◌, List, Some, drop, map}
use Rattle.calculus.specs.Syntax.{Symbol}
use Rattle.tptp_reader.specs.SourceView.{the_source}
use Rattle.problem_build.specs.Expansion.{closed}
use Rattle.problem_build.specs.Measuring.{both_nodes, measured}
use Rattle.problem_build.proofs.items.items_nodes.Given as goal

abbrev pub invariant-loop-body : goal.invariant-loop-body
invariant-loop-body l =
    (l.total ≤ 4000001)
    × ((symbols : List Symbol) → both_nodes (Some l.total) (measured (map (closed symbols) (map the_source (drop l.body-index l.items))))
    ≡ measured (map (closed symbols) (map the_source l.items)))
