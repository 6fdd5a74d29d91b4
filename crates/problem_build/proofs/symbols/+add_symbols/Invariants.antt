use Rattle.std.proofs.Common.{◌≡◌, drop, map}
use Rattle.calculus.specs.Equality.{symbol_eq}
use Rattle.tptp_reader.specs.Lists.{sources_tree}
use Rattle.tptp_reader.specs.Sizes.{source_size}
use Rattle.tptp_reader.specs.SourceView.{the_source}
use Rattle.problem_build.specs.Adding.{with_new}
use Rattle.problem_build.specs.Expansion.{symbols_in_all}
use Rattle.problem_build.proofs.symbols.+add_symbols.Given as goal

abbrev pub invariant-loop-unit : goal.invariant-loop-unit
invariant-loop-unit l =
    with_new symbol_eq l.symbols (symbols_in_all (sources_tree (map the_source (drop l.unit-index l.unit-items))))
    ≡ with_new symbol_eq l.fn.symbols (symbols_in_all (sources_tree (map the_source l.unit-items)))

abbrev pub decreases-add_symbols : goal.decreases-add_symbols
decreases-add_symbols l = source_size (the_source l.source.now)
