use Rattle.std.proofs.Common.{◌≡◌, ◌++◌, map, drop}
use Rattle.formula_core.specs.FormulaView.{the_formula}
use Rattle.tptp_reader.specs.SourceView.{the_source}
use Rattle.problem_build.specs.Expansion.{closed}
use Rattle.problem_build.proofs.items.push_closed.Given as goal

abbrev pub invariant-loop-body : goal.invariant-loop-body
invariant-loop-body l =
    map the_formula l.formulas.items ++ map (closed l.symbols) (map the_source (drop l.body-index l.items))
    ≡ map the_formula l.fn.formulas.items ++ map (closed l.symbols) (map the_source l.items)
