use Rattle.std.proofs.Common.{◌∷◌, [], ◌∙◌, ap, arith, map}
use Rattle.std.proofs.lemmas.List.{map-append}
use Rattle.formula_core.specs.FormulaView.{the_formula}
use Rattle.problem_build.proofs.ItemLaws.{pushed-end, pushed-next}
use Rattle.problem_build.proofs.NameCountLaws.{short-item}
use Rattle.problem_build.proofs.items.push_closed.Goals as goal

pub closed-requires : goal.closed-requires
closed-requires c = short-item c.args.items.now c.loop-body.body-index c.body-item.result c.body-item.result (omega arith) c.body-item.is c.requires

pub loop-body-preserved : goal.loop-body-preserved
loop-body-preserved c =
    pushed-next c.args.symbols.now c.args.items.now c.loop-body.body-index c.body-item.result (the_formula c.in_ok-formula.formula)
    (map the_formula c.loop-body.formulas.items) _ _ (omega arith) c.body-item.is c.in_ok-formula.ensures
    (ap (map the_formula) c.in_ok-push.ensures.items ∙ map-append the_formula c.loop-body.formulas.items (c.in_ok-formula.formula ∷ []))
    c.loop-body.invariant

pub returns : goal.returns
returns c = pushed-end c.args.symbols.now c.args.items.now c.loop-body.body-index _ _ (omega arith) c.loop-body.invariant
