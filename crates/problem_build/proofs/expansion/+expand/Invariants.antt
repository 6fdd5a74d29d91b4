use Rattle.std.proofs.Common.{◌≡◌, take, map}
use Rattle.std.specs.Prelude.{reverse}
use Rattle.formula_core.specs.FormulaView.{the_formula}
use Rattle.tptp_reader.specs.Sizes.{source_size}
use Rattle.tptp_reader.specs.SourceView.{the_source}
use Rattle.problem_build.specs.Expansion.{expanded}
use Rattle.problem_build.proofs.expansion.+expand.Given as goal

abbrev pub invariant-loop-unit : goal.invariant-loop-unit
invariant-loop-unit l =
    (l.scope.items ≡ l.fn.scope.items)
    × (map the_formula l.formulas.items ≡ map (expanded l.symbols (reverse l.fn.scope.items)) (map the_source (take l.unit-index l.unit-items)))

abbrev pub decreases-expand : goal.decreases-expand
decreases-expand l = source_size (the_source l.source.now)
