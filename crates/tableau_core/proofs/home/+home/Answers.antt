use Rattle.std.proofs.Common.{◌+◌, ap, arith, sym, ◌∙◌, map, refl, None, Some}
use Rattle.std.specs.Option.{option_map_or}
use Rattle.calculus.specs.Kinds.{modal_of, shape_of}
use Rattle.calculus.specs.Positions.{way_from}
use Rattle.calculus.specs.Skolem.{after_shape, label_along}
use Rattle.formula_core.specs.FormulaView.{the_formula}
use Rattle.formula_core.specs.GroundLists.{the_marks, the_value}
use Rattle.tableau_core.specs.InsideView.{the_inside}
use Rattle.tableau_core.specs.Reaching.{reach, rest_of}
use Rattle.tableau_core.specs.Numbered.SpotView.{the_mark_at}
use Rattle.calculus.specs.Labels.{nu_label}
use Rattle.tableau_core.proofs.Numbered.LabelLaws.{nu-next, nu-stuck}
use Rattle.tableau_core.proofs.HomeLaws.{along, along-further, along-last, along-stuck, pi-next}
use Rattle.tableau_core.proofs.home.+home.Goals as goal

pub home_below-returns-in_ok-w-in-Pi : goal.home_below-returns-in_ok-w-in-Pi
home_below-returns-in_ok-w-in-Pi t c = let f = the_formula c.args.part.formula.now in let vs = c.args.values.now in
    let moved = map (the_mark_at c.args.table.now) c.in_ok-moved-in-Pi.moved.items in
    let r = reach (map (the_mark_at c.args.table.now) c.args.label.now) (map (the_value c.args.table.now) vs) c.args.taken in
    c.in_ok-w-in-Pi.ensures ∙ ap (λ xs. option_map_or (label_along c.args.logic (rest_of (way_from c.args.position c.args.part.sign f c.args.place))) (after_shape (shape_of c.args.part.sign f) (reach (map (the_mark_at c.args.table.now) xs) (map (the_value c.args.table.now) vs) c.args.taken)) (map (the_mark_at c.args.table.now) c.args.label.now)) c.deref-in-Pi.ensures.value ∙ sym (along c.args.logic c.args.position c.args.part.sign f c.args.place r (Some (reach moved (map (the_value c.args.table.now) vs) c.args.taken)) c.requires.inside (pi-next (the_value c.args.table.now) vs _ c.args.taken c.args.logic c.args.position c.kind_of.result.modal (modal_of c.args.logic c.args.part.sign f) (map (the_mark_at c.args.table.now) c.args.label.now) moved c.kind_of.ensures.modal c.in-Pi.is refl (c.in_ok-moved-in-Pi.ensures c.args.table.now)))

pub home_shape-home_below-requires : goal.home_shape-home_below-requires
home_shape-home_below-requires t c = (omega arith, (omega arith, (c.towards-next.ensures.leads.inside, c.in-Some.ensures.within)))

pub home_shape-returns : goal.home_shape-returns
home_shape-returns t c = let w = map (the_mark_at c.args.table.now) c.args.label.now in
    c.in_ok-w-3.ensures ∙ sym (along-further c.args.logic c.args.position c.args.part.sign (the_formula c.args.part.formula.now) c.args.place (the_inside c.towards-next.result) _ (map (the_mark_at c.args.table.now) c.args.before.now) (reach w (map (the_value c.args.table.now) c.args.values.now) c.in-Some.past) c.requires.inside (omega arith) c.towards-next.ensures.leads (c.in-Some.ensures.found w ∙ ap (λ h. after_shape h (reach w (map (the_value c.args.table.now) c.args.values.now) c.args.taken)) (c.shape-shape.ensures ∙ c.components.ensures.shape)))

pub home_below-returns-in_ok-w-in-Some : goal.home_below-returns-in_ok-w-in-Some
home_below-returns-in_ok-w-in-Some t c = let f = the_formula c.args.part.formula.now in let vs = c.args.values.now in let l = c.args.logic in
    let w = map (the_mark_at c.args.table.now) c.args.label.now in
    let moved = map (the_mark_at c.args.table.now) c.in_ok-moved-in-Some.moved.items in
    let r = reach w (map (the_value c.args.table.now) vs) c.args.taken in
    c.in_ok-w-in-Some.ensures ∙ ap (λ xs. option_map_or (label_along l (rest_of (way_from c.args.position c.args.part.sign f c.args.place))) (after_shape (shape_of c.args.part.sign f) (reach (map (the_mark_at c.args.table.now) xs) (map (the_value c.args.table.now) vs) (c.args.taken + 1))) w) c.deref.ensures.value ∙ sym (along l c.args.position c.args.part.sign f c.args.place r (Some (reach moved (map (the_value c.args.table.now) vs) (c.args.taken + 1))) c.requires.inside (nu-next (the_value c.args.table.now) vs c.args.taken l c.args.position c.kind_of.result.modal (modal_of l c.args.part.sign f) w moved (the_marks c.args.table.now c.in-Some.string) c.kind_of.ensures.modal c.in-Nu.is (c.in_ok-moved-in-Some.ensures c.args.table.now ∙ ap (nu_label l w) c.marks.ensures.list) (c.in-Some.ensures.found l w)))

pub home_below-returns-in_ok-w-in-None : goal.home_below-returns-in_ok-w-in-None
home_below-returns-in_ok-w-in-None t c = let f = the_formula c.args.part.formula.now in let vs = c.args.values.now in let l = c.args.logic in
    let w = map (the_mark_at c.args.table.now) c.args.label.now in
    ap (map (the_mark_at c.args.table.now)) c.in_ok-w-in-None.ensures ∙ sym (along l c.args.position c.args.part.sign f c.args.place (reach w (map (the_value c.args.table.now) vs) c.args.taken) None c.requires.inside (nu-stuck (the_value c.args.table.now) vs c.args.taken l c.args.position c.kind_of.result.modal (modal_of l c.args.part.sign f) w c.kind_of.ensures.modal c.in-Nu.is (c.in-None.ensures.found l w)))

pub home_shape-returns-in_default : goal.home_shape-returns-in_default
home_shape-returns-in_default t c = let f = the_formula c.args.part.formula.now in
    let w = map (the_mark_at c.args.table.now) c.args.label.now in
    let r = reach w (map (the_value c.args.table.now) c.args.values.now) c.args.taken in
    ap (map (the_mark_at c.args.table.now)) c.in_ok-w.ensures ∙ sym (along-stuck c.args.logic (rest_of (way_from c.args.position c.args.part.sign f c.args.place)) (after_shape (shape_of c.args.part.sign f) r) (map (the_mark_at c.args.table.now) c.args.before.now) (c.in_default.ensures.found w ∙ ap (λ h. after_shape h r) (c.shape-shape.ensures ∙ c.components.ensures.shape)))

pub home_shape-returns-then-place-eq0 : goal.home_shape-returns-then-place-eq0
home_shape-returns-then-place-eq0 t c = let f = the_formula c.args.part.formula.now in
    let w = map (the_mark_at c.args.table.now) c.args.label.now in
    let r = reach w (map (the_value c.args.table.now) c.args.values.now) c.args.taken in
    ap (map (the_mark_at c.args.table.now)) c.in_ok-w-2.ensures ∙ sym (along-last c.args.logic c.args.position c.args.part.sign f c.args.place (after_shape (shape_of c.args.part.sign f) r) (map (the_mark_at c.args.table.now) c.args.before.now) (reach w (map (the_value c.args.table.now) c.args.values.now) c.in-Some.past) c.if-place-eq0.true (c.in-Some.ensures.found w ∙ ap (λ h. after_shape h r) (c.shape-shape.ensures ∙ c.components.ensures.shape)))
