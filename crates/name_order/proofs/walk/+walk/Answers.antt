use Rattle.std.proofs.Common.{◌∷◌, [], map, ◌∙◌, ap}
use Rattle.calculus.specs.Kinds.{shape_of}
use Rattle.calculus.specs.Positions.{size}
use Rattle.formula_core.specs.FormulaView.{the_formula}
use Rattle.formula_core.specs.GroundLists.{the_value}
use Rattle.name_order.specs.Walks.{values_at, walk, walk_one, walk_alpha, walk_beta}
use Rattle.name_order.proofs.WalkByShape.{walk_below}
use Rattle.name_order.proofs.ByNumber.WalkStep.{left-by}
use Rattle.tableau_core.specs.PartView.{the_part}
use Rattle.name_order.proofs.walk.+walk.Goals as goal

pub walk-returns-in-One : goal.walk-returns-in-One
walk-returns-in-One t c =
    let l = c.args.logic in
    let s = c.args.whole.sign in
    let f = the_formula c.args.whole.formula.now in
    let part = ap (λ h. walk_below l h (the_part c.in-One.a ∷ [])) c.in-One.ensures.shape ∙ ap (walk_below l (shape_of s f)) c.in-One.ensures.components in
    left-by l s f c.args.position c.values_at-count.result (map (the_value c.args.table.now) c.args.taken.now) (map (the_value c.args.table.now) c.first.result.now) (map (the_value c.args.table.now) c.as_slice-taken.result.now) (map (the_value c.args.table.now) c.args.supply.values.now) (map (the_value c.args.table.now) c.rest.result.now) c.args.supply.sides.now c.args.table.now c.args.turns.now.items c.reach.new.turns.items c.walk.new.turns.items c.in_ok-left-in-One.left (walk_one (walk l (the_formula c.in-One.a.formula.now) c.in-One.a.sign)) (c.values_at-count.ensures ∙ (λ i. values_at (c.kind_of-kind.ensures.modal i) (c.kind_of-kind.ensures.shape i))) c.first.ensures (ap (map (the_value c.args.table.now)) c.as_slice-taken.ensures.value ∙ c.in_ok-all.ensures) c.in_ok-reach.ensures c.rest.ensures part c.in_ok-left-in-One.ensures

pub walk-returns-in-Alpha : goal.walk-returns-in-Alpha
walk-returns-in-Alpha t c =
    let l = c.args.logic in
    let s = c.args.whole.sign in
    let f = the_formula c.args.whole.formula.now in
    let part = ap (λ h. walk_below l h (the_part c.in-Alpha.a ∷ the_part c.in-Alpha.b ∷ [])) c.in-Alpha.ensures.shape ∙ ap (walk_below l (shape_of s f)) c.in-Alpha.ensures.components in
    left-by l s f c.args.position c.values_at-count.result (map (the_value c.args.table.now) c.args.taken.now) (map (the_value c.args.table.now) c.first.result.now) (map (the_value c.args.table.now) c.as_slice-taken.result.now) (map (the_value c.args.table.now) c.args.supply.values.now) (map (the_value c.args.table.now) c.rest.result.now) c.args.supply.sides.now c.args.table.now c.args.turns.now.items c.reach.new.turns.items c.walk_alpha.new.turns.items c.in_ok-left-in-Alpha.left (walk_alpha (size (the_formula c.in-Alpha.a.formula.now)) (walk l (the_formula c.in-Alpha.a.formula.now) c.in-Alpha.a.sign) (walk l (the_formula c.in-Alpha.b.formula.now) c.in-Alpha.b.sign)) (c.values_at-count.ensures ∙ (λ i. values_at (c.kind_of-kind.ensures.modal i) (c.kind_of-kind.ensures.shape i))) c.first.ensures (ap (map (the_value c.args.table.now)) c.as_slice-taken.ensures.value ∙ c.in_ok-all.ensures) c.in_ok-reach.ensures c.rest.ensures part c.in_ok-left-in-Alpha.ensures

pub walk-returns : goal.walk-returns
walk-returns t c =
    let l = c.args.logic in
    let s = c.args.whole.sign in
    let f = the_formula c.args.whole.formula.now in
    let part = ap (λ h. walk_below l h (the_part c.in-Beta.a ∷ the_part c.in-Beta.b ∷ [])) c.in-Beta.ensures.shape ∙ ap (walk_below l (shape_of s f)) c.in-Beta.ensures.components in
    left-by l s f c.args.position c.values_at-count.result (map (the_value c.args.table.now) c.args.taken.now) (map (the_value c.args.table.now) c.first.result.now) (map (the_value c.args.table.now) c.as_slice-taken.result.now) (map (the_value c.args.table.now) c.args.supply.values.now) (map (the_value c.args.table.now) c.rest.result.now) c.args.supply.sides.now c.args.table.now c.args.turns.now.items c.reach.new.turns.items c.walk_beta.new.turns.items c.in_ok-left-in-Beta.left (walk_beta (size (the_formula c.in-Beta.a.formula.now)) (walk l (the_formula c.in-Beta.a.formula.now) c.in-Beta.a.sign) (walk l (the_formula c.in-Beta.b.formula.now) c.in-Beta.b.sign)) (c.values_at-count.ensures ∙ (λ i. values_at (c.kind_of-kind.ensures.modal i) (c.kind_of-kind.ensures.shape i))) c.first.ensures (ap (map (the_value c.args.table.now)) c.as_slice-taken.ensures.value ∙ c.in_ok-all.ensures) c.in_ok-reach.ensures c.rest.ensures part c.in_ok-left-in-Beta.ensures
