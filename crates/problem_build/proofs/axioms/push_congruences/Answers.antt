use Rattle.std.proofs.Common.{◌+◌, ◌++◌, ◌∙◌, ap, arith, drop, map, option_map}
use Rattle.formula_core.specs.FormulaView.{the_formula}
use Rattle.formula_core.specs.SymbolView.{the_symbol}
use Rattle.problem_build.specs.EqualityAxioms.{for_each}
use Rattle.problem_build.specs.Measuring.{congruence_of, listed_axiom}
use Rattle.problem_build.proofs.MeasuringLaws.{listed-end, listed-step}
use Rattle.problem_build.proofs.NameCountLaws.{narrow-item}
use Rattle.problem_build.proofs.axioms.push_congruences.Goals as goal

pub congruence-requires : goal.congruence-requires
congruence-requires c = narrow-item c.args.symbols.now c.loop-number.number (the_symbol c.get-symbol.result.now) c.get-symbol.ensures c.requires

pub loop-number-preserved : goal.loop-number-preserved
loop-number-preserved c =
    ap (λ ms. ms ++ for_each (congruence_of c.args.sort c.args.symbols.now) (c.loop-number.number + 1) (drop (c.loop-number.number + 1) c.args.symbols.now))
    c.in_ok-push_listed.ensures
    ∙ listed-step (congruence_of c.args.sort c.args.symbols.now) c.args.symbols.now c.loop-number.number (c.loop-number.number + 1) (the_symbol c.get-symbol.result.now)
    (map the_formula c.loop-number.axioms.items) (listed_axiom (option_map the_formula c.in_ok-listed.listed)) _
    c.get-symbol.ensures (omega arith) c.in_ok-listed.ensures c.loop-number.invariant

pub returns : goal.returns
returns c =
    listed-end (congruence_of c.args.sort c.args.symbols.now) c.args.symbols.now c.loop-number.number _ _ (omega arith) c.loop-number.invariant
