use Rattle.std.proofs.Common.{◌≡◌, drop, map}
use Rattle.tptp_reader.specs.Lists.{sources_tree}
use Rattle.tptp_reader.specs.Sizes.{source_size}
use Rattle.tptp_reader.specs.SourceView.{the_source}
use Rattle.problem_build.specs.Adding.{with_new}
use Rattle.problem_build.specs.Expansion.{same_name, free_in_all}
use Rattle.problem_build.proofs.variables.+add_free.Given as goal

abbrev pub invariant-loop-unit : goal.invariant-loop-unit
invariant-loop-unit l =
    (l.bound.items ≡ l.fn.bound.items)
    × (with_new same_name l.found (free_in_all l.fn.bound.items (sources_tree (map the_source (drop l.unit-index l.unit-items))))
    ≡ with_new same_name l.fn.found (free_in_all l.fn.bound.items (sources_tree (map the_source l.unit-items))))

abbrev pub decreases-add_free : goal.decreases-add_free
decreases-add_free l = source_size (the_source l.source.now)
