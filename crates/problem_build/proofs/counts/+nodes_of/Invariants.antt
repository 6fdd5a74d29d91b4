use Rattle.std.proofs.Common.{◌≡◌, ◌≤◌, ◌+◌, min, map, drop}
use Rattle.tptp_reader.specs.Lists.{sources_tree}
use Rattle.tptp_reader.specs.Sizes.{source_size}
use Rattle.tptp_reader.specs.SourceView.{the_source}
use Rattle.problem_build.specs.Counting.{joined_nodes}
use Rattle.problem_build.proofs.counts.+nodes_of.Given as goal

abbrev pub invariant-loop-unit : goal.invariant-loop-unit
invariant-loop-unit l =
    (l.total ≤ 4000001)
    × (min (l.total + joined_nodes (sources_tree (map the_source (drop l.unit-index l.rest)))) 4000001
    ≡ min (l.initial.total + joined_nodes (sources_tree (map the_source l.rest))) 4000001)

abbrev pub decreases-nodes_of : goal.decreases-nodes_of
decreases-nodes_of l = source_size (the_source l.source.now)
