use Rattle.std.proofs.Common.{◌≡◌, ◌++◌, min, map, drop}
use Rattle.tptp_reader.specs.Lists.{sources_tree}
use Rattle.tptp_reader.specs.Sizes.{source_size}
use Rattle.tptp_reader.specs.SourceView.{the_source}
use Rattle.problem_build.specs.Counting.{nestings_of}
use Rattle.problem_build.proofs.counts.+nesting_of.Given as goal

abbrev pub invariant-loop-unit : goal.invariant-loop-unit
invariant-loop-unit l =
    l.nestings.items ++ map (λ n. min n 18446744073709551615) (nestings_of (sources_tree (map the_source (drop l.unit-index l.unit-items))))
    ≡ map (λ n. min n 18446744073709551615) (nestings_of (sources_tree (map the_source l.unit-items)))

abbrev pub decreases-nesting_of : goal.decreases-nesting_of
decreases-nesting_of l = source_size (the_source l.source.now)
