use Rattle.std.proofs.Common.{◌<◌, ◌∙◌, Some, ap, arith, length, map, option_map, sym}
use Rattle.std.proofs.lemmas.List.{length-map}
use Rattle.formula_core.specs.FormulaView.{the_formula}
use Rattle.problem_build.specs.Building.{problem_formula}
use Rattle.problem_build.proofs.ItemLaws.{alone, implied, negated}
use Rattle.problem_build.proofs.ListLaws.{empty-is, some-is}
use Rattle.problem_build.proofs.building.problem_formula.Goals as goal

pub returns-then-is_empty : goal.returns-then-is_empty
returns-then-is_empty c = λ cs e.
    e ∙ alone cs ∙ ap (λ fs. problem_formula (map the_formula fs) cs)
    (sym (sym c.as_slice.ensures.value ∙ empty-is c.as_slice.result.now c.is_empty.result c.is_empty.ensures c.if-is_empty.true))

pub returns-in_ok-formula-in-None : goal.returns-in_ok-formula-in-None
returns-in_ok-formula-in-None c = λ cs e.
    let some : 0 < length c.as_slice.result.now = some-is c.as_slice.result.now c.is_empty.result c.is_empty.ensures c.if-is_empty.false in
    ap Some c.in_ok-formula-in-None.ensures
    ∙ negated c.args.symbols.now (map the_formula c.args.premises.items) cs (the_formula c.in_ok-given.given)
    (omega (arith, some, ap length c.as_slice.ensures.value, length-map c.args.premises.items the_formula)) c.in_ok-given.ensures
    (ap (option_map the_formula) (sym c.in-None.is) ∙ e)

pub returns-in_ok-formula-in-Some : goal.returns-in_ok-formula-in-Some
returns-in_ok-formula-in-Some c = λ cs e.
    let some : 0 < length c.as_slice.result.now = some-is c.as_slice.result.now c.is_empty.result c.is_empty.ensures c.if-is_empty.false in
    ap Some c.in_ok-formula-in-Some.ensures
    ∙ implied c.args.symbols.now (map the_formula c.args.premises.items) cs (the_formula c.in_ok-given.given) (the_formula c.in-Some.shown)
    (omega (arith, some, ap length c.as_slice.ensures.value, length-map c.args.premises.items the_formula)) c.in_ok-given.ensures
    (ap (option_map the_formula) (sym c.in-Some.is) ∙ e)
