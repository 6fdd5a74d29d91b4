use Rattle.std.proofs.Common.{◌+◌, ◌∙◌, Some, ap, arith, drop, sym}
use Rattle.formula_core.specs.SymbolView.{the_symbol}
use Rattle.problem_build.specs.EqualityAxioms.{for_each}
use Rattle.problem_build.specs.Measuring.{both_nodes, congruence_of, measured}
use Rattle.problem_build.proofs.MeasuringLaws.{measured-capped, measured-end, measured-step, step-deep}
use Rattle.problem_build.proofs.NameCountLaws.{narrow-item}
use Rattle.problem_build.proofs.axioms.congruences_nodes.Goals as goal

pub congruence_nodes-requires : goal.congruence_nodes-requires
congruence_nodes-requires c = narrow-item c.args.symbols.now c.loop-number.number (the_symbol c.get-symbol.result.now) c.get-symbol.ensures c.requires

pub loop-number-init : goal.loop-number-init
loop-number-init c = (omega arith, measured-capped (for_each (congruence_of c.args.sort c.args.symbols.now) 0 c.args.symbols.now))

pub returns-in_default : goal.returns-in_default
returns-in_default c =
    step-deep (congruence_of c.args.sort c.args.symbols.now) c.args.symbols.now c.loop-number.number (the_symbol c.get-symbol.result.now) c.loop-number.total _
    c.get-symbol.ensures (sym c.in_default.is ∙ c.in_ok-measured.ensures) c.loop-number.invariant.1

pub loop-number-preserved : goal.loop-number-preserved
loop-number-preserved c = (
  omega arith,
  ap (λ n. both_nodes (Some n) (measured (for_each (congruence_of c.args.sort c.args.symbols.now) (c.loop-number.number + 1) (drop (c.loop-number.number + 1) c.args.symbols.now)))) c.sum-total.ensures
      ∙ measured-step (congruence_of c.args.sort c.args.symbols.now) c.args.symbols.now c.loop-number.number (c.loop-number.number + 1) (the_symbol c.get-symbol.result.now)
      (Some c.loop-number.total) (Some c.in-Some.nodes) _ c.get-symbol.ensures (omega arith) (sym c.in-Some.is ∙ c.in_ok-measured.ensures) c.loop-number.invariant.1,
)

pub returns : goal.returns
returns c =
    measured-end (congruence_of c.args.sort c.args.symbols.now) c.args.symbols.now c.loop-number.number c.loop-number.total _ (omega arith) (omega arith) c.loop-number.invariant.1
