use Rattle.std.proofs.Common.{◌∙◌, ◌++◌, ap, sym, arith, map, length}
use Rattle.std.specs.Prelude.{reverse}
use Rattle.cop_base.proofs.Items.{map-end}
use Rattle.formula_core.specs.FormulaView.{the_formula}
use Rattle.tptp_reader.specs.SourceView.{the_source}
use Rattle.problem_build.specs.Expansion.{expanded, joined_chain}
use Rattle.problem_build.proofs.ExpandingLaws.{all-expanded, ex-expanded, expanded_all-list}
use Rattle.problem_build.proofs.expansion.+expand.Goals as goal

pub returns-in_ok-joined-in-Chain-clause-expanded : goal.returns-in_ok-joined-in-Chain-clause-expanded
returns-in_ok-joined-in-Chain-clause-expanded t c =
    let m = map-end the_source c.items-unit-items.result.now c.in-Chain.units c.loop-unit.unit-index c.items-unit-items.ensures (omega arith) in
    c.in_ok-joined-in-Chain.ensures
    ∙ ap (joined_chain c.in-Chain.kind c.args.symbols.now) (c.loop-unit.invariant.1 ∙ ap (map (expanded c.args.symbols.now (reverse c.args.scope.now.items))) m
    ∙ expanded_all-list c.args.symbols.now (reverse c.args.scope.now.items) c.in-Chain.units)
    ∙ ap (λ s. expanded c.args.symbols.now (reverse c.args.scope.now.items) (the_source s)) (sym c.in-Chain.is)

pub returns-in_ok-formula-in-All-clause-expanded : goal.returns-in_ok-formula-in-All-clause-expanded
returns-in_ok-formula-in-All-clause-expanded t c =
    all-expanded c.args.symbols.now c.args.scope.now.items c.in-All.xs c.push_names.new.names.items c.in-All.a (length c.items-in-All.result.now)
    (the_formula c.in_ok-formula-in-All.formula) (the_formula c.in_ok-body-in-All.body)
    c.in_ok-formula-in-All.ensures (ap length c.items-in-All.ensures)
    (c.in_ok-body-in-All.ensures.expanded ∙ ap (expanded c.args.symbols.now (reverse c.push_names.new.names.items)) c.get-in-All.ensures)
    (c.in_ok-push_names-in-All.ensures ∙ ap (λ z. c.args.scope.now.items ++ z) c.items.ensures)
    ∙ ap (λ s. expanded c.args.symbols.now (reverse c.args.scope.now.items) (the_source s)) (sym c.in-All.is)

pub returns-in_ok-formula-in-Ex-clause-expanded : goal.returns-in_ok-formula-in-Ex-clause-expanded
returns-in_ok-formula-in-Ex-clause-expanded t c =
    ex-expanded c.args.symbols.now c.args.scope.now.items c.in-Ex.xs c.push_names-in-Ex.new.names.items c.in-Ex.a (length c.items-in-Ex-2.result.now)
    (the_formula c.in_ok-formula-in-Ex.formula) (the_formula c.in_ok-body-in-Ex.body)
    c.in_ok-formula-in-Ex.ensures (ap length c.items-in-Ex-2.ensures)
    (c.in_ok-body-in-Ex.ensures.expanded ∙ ap (expanded c.args.symbols.now (reverse c.push_names-in-Ex.new.names.items)) c.get-in-Ex.ensures)
    (c.in_ok-push_names-in-Ex.ensures ∙ ap (λ z. c.args.scope.now.items ++ z) c.items-in-Ex.ensures)
    ∙ ap (λ s. expanded c.args.symbols.now (reverse c.args.scope.now.items) (the_source s)) (sym c.in-Ex.is)
