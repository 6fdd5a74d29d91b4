use Rattle.std.proofs.Common.{rules, ◌≡◌, ◌∙◌, IsTrue, None, ap, arith, map, nat_le, refl, subst, sym}
use Rattle.std.specs.List.{list_all}
use Rattle.store_theory.specs.Bindings.{nothing_more}
use Rattle.calculus.specs.Positions.{size}
use Rattle.calculus.specs.Syntax.{Setting}
use Rattle.store_theory.proofs.PatternLaws.{AddsBuilt-both}
use Rattle.formula_core.specs.FormulaView.{the_formula}
use Rattle.tableau_core.specs.InsideView.{the_inside}
use Rattle.term_store.specs.RefView.{the_place}
use Rattle.domain_cond.specs.Ways.{IsFoundHome}
use Rattle.domain_cond.proofs.HomeSteps.{IsKind, step-last, step-next, step-no_string, step-no_term}
use Rattle.domain_cond.proofs.RightLaws.{right-further, right-last, right-root, right-so_far}
use Rattle.domain_cond.proofs.WayLaws.{found-outside, on-root}
use Rattle.domain_cond.proofs.home.home.Goals as goal

pub returns-then-p-size-clause-found : goal.returns-then-p-size-clause-found
returns-then-p-size-clause-found c = subst (λ ks. IsFoundHome c.args.problem.now c.args.store.now.store c.args.store.now.store c.args.p.0 (map the_place c.args.values.now) ks) (sym (ap (map the_place) c.new-label.ensures.items)) (found-outside c.args.problem.now c.args.p.0 c.size.result c.args.store.now.store (map the_place c.args.values.now) (c.size.ensures ∙ ap size c.whole-whole.ensures.formula) c.if-p-size.true)

pub returns-then-p-size-clause-adds : goal.returns-then-p-size-clause-adds
returns-then-p-size-clause-adds c = nothing_more

pub loop-middle-init : goal.loop-middle-init
loop-middle-init c =
    let e = c.size.ensures in
    let g = c.if-p-size.false in
    let h = c.whole-whole.ensures.small in
    record {
      way = on-root c.args.problem.now c.args.p.0 c.args.store.now.store (map the_place c.args.values.now) (map the_place c.new-label.result.items) c.whole-whole.result.sign (the_formula c.whole-whole.result.formula.now) (omega (arith, e, g)) c.requires c.mark-now.ensures.well.fits (ap (map the_place) c.new-label.ensures.items) c.whole-whole.ensures.sign c.whole-whole.ensures.formula;
      right = right-root c.args.problem.now c.args.p.0 c.args.store.now.store (map the_place c.args.values.now) (map the_place c.new-label.result.items) c.whole-whole.result.sign (the_formula c.whole-whole.result.formula.now) (omega (arith, e, g)) (ap (map the_place) c.new-label.ensures.items) c.whole-whole.ensures.sign c.whole-whole.ensures.formula;
      inside = omega (arith, e, g);
      small = omega (arith, h);
      taken = omega arith;
      room = (omega arith, omega arith);
    }

pub past_modal-requires-clause-values : goal.past_modal-requires-clause-values
past_modal-requires-clause-values c = c.loop-middle.invariant.way.values

pub past_modal-requires-clause-taken : goal.past_modal-requires-clause-taken
past_modal-requires-clause-taken c = c.loop-middle.invariant.taken

pub returns-in_default-clause-found : goal.returns-in_default-clause-found
returns-in_default-clause-found c =
    let P = c.args.problem.now in
    let s = c.loop-middle.store.store in
    let rs = map the_place c.args.values.now in
    let label = map the_place c.loop-middle.label.items in
    let part = c.loop-middle.at.part in
    let f = the_formula part.formula.now in
    let w = c.loop-middle.invariant.way in
    let kind : IsKind P c.logic-logic.result part.sign f c.kind_of-kind.result.modal c.kind_of-kind.result.shape = record { logic = c.logic-logic.ensures ∙ ap (λ (x : Setting). x.logic) c.setting.ensures.setting; modal_is = c.kind_of-kind.ensures.modal; shape_is = c.kind_of-kind.ensures.shape } in
    let none : c.past_modal.result ≡ None = search rules in
    step-no_string P c.logic-logic.result c.kind_of-kind.result.modal c.kind_of-kind.result.shape c.args.p.0 c.args.store.now.store s rs label c.loop-middle.taken c.loop-middle.at.further part.sign f c.loop-middle.at.place kind w c.loop-middle.invariant.inside (c.past_modal.ensures.none none)

pub returns-in_default-clause-adds : goal.returns-in_default-clause-adds
returns-in_default-clause-adds c = c.loop-middle.invariant.way.adds

pub past_shape-requires-clause-values : goal.past_shape-requires-clause-values
past_shape-requires-clause-values c = c.loop-middle.invariant.way.values

pub past_shape-requires-clause-taken : goal.past_shape-requires-clause-taken
past_shape-requires-clause-taken c = c.in-Some.ensures.within

pub returns-in_default-past_shape-clause-found : goal.returns-in_default-past_shape-clause-found
returns-in_default-past_shape-clause-found c =
    let P = c.args.problem.now in
    let s = c.loop-middle.store.store in
    let rs = map the_place c.args.values.now in
    let label = map the_place c.loop-middle.label.items in
    let part = c.loop-middle.at.part in
    let f = the_formula part.formula.now in
    let w = c.loop-middle.invariant.way in
    let kind : IsKind P c.logic-logic.result part.sign f c.kind_of-kind.result.modal c.kind_of-kind.result.shape = record { logic = c.logic-logic.ensures ∙ ap (λ (x : Setting). x.logic) c.setting.ensures.setting; modal_is = c.kind_of-kind.ensures.modal; shape_is = c.kind_of-kind.ensures.shape } in
    let none : c.past_shape.result ≡ None = search rules in
    step-no_term P c.logic-logic.result c.kind_of-kind.result.modal c.kind_of-kind.result.shape c.args.p.0 c.args.store.now.store s rs label c.loop-middle.taken c.in-Some.middle c.loop-middle.at.further part.sign f c.loop-middle.at.place kind w c.loop-middle.invariant.inside c.in-Some.ensures.some (c.past_shape.ensures.none none)

pub returns-in_default-past_shape-clause-adds : goal.returns-in_default-past_shape-clause-adds
returns-in_default-past_shape-clause-adds c = c.loop-middle.invariant.way.adds

pub push_modal-requires-clause-values : goal.push_modal-requires-clause-values
push_modal-requires-clause-values c = c.loop-middle.invariant.way.values

pub push_modal-requires-clause-taken : goal.push_modal-requires-clause-taken
push_modal-requires-clause-taken c = c.loop-middle.invariant.taken

pub push_modal-requires-clause-takes : goal.push_modal-requires-clause-takes
push_modal-requires-clause-takes c = (c.in-Some.middle, c.in-Some.ensures.some)

pub returns-in_err-push_modal-clause-adds : goal.returns-in_err-push_modal-clause-adds
returns-in_err-push_modal-clause-adds c = AddsBuilt-both c.args.store.now.store c.loop-middle.store.store c.push_modal.new.store.store c.loop-middle.invariant.way.adds c.push_modal.ensures.adds

pub returns-then-at-eq0-clause-adds : goal.returns-then-at-eq0-clause-adds
returns-then-at-eq0-clause-adds c = AddsBuilt-both c.args.store.now.store c.loop-middle.store.store c.push_modal.new.store.store c.loop-middle.invariant.way.adds c.push_modal.ensures.adds

pub returns-in_err-push_modal-clause-room : goal.returns-in_err-push_modal-clause-room
returns-in_err-push_modal-clause-room c = (let a = c.loop-middle.invariant.room in let b = c.push_modal.ensures.room in (omega (arith, a, b), omega (arith, a, b)))

pub returns-then-at-eq0-clause-room : goal.returns-then-at-eq0-clause-room
returns-then-at-eq0-clause-room c = (let a = c.loop-middle.invariant.room in let b = c.push_modal.ensures.room in (omega (arith, a, b), omega (arith, a, b)))

pub returns-in_default-clause-room : goal.returns-in_default-clause-room
returns-in_default-clause-room c = c.loop-middle.invariant.room

pub returns-in_default-past_shape-clause-room : goal.returns-in_default-past_shape-clause-room
returns-in_default-past_shape-clause-room c = c.loop-middle.invariant.room

pub returns-then-at-eq0-clause-found : goal.returns-then-at-eq0-clause-found
returns-then-at-eq0-clause-found c =
    let P = c.args.problem.now in
    let s = c.loop-middle.store.store in
    let rs = map the_place c.args.values.now in
    let label = map the_place c.loop-middle.label.items in
    let part = c.loop-middle.at.part in
    let f = the_formula part.formula.now in
    let w = c.loop-middle.invariant.way in
    let kind : IsKind P c.logic-logic.result part.sign f c.kind_of-kind.result.modal c.kind_of-kind.result.shape = record { logic = c.logic-logic.ensures ∙ ap (λ (x : Setting). x.logic) c.setting.ensures.setting; modal_is = c.kind_of-kind.ensures.modal; shape_is = c.kind_of-kind.ensures.shape } in
    step-last P c.logic-logic.result c.kind_of-kind.result.modal c.kind_of-kind.result.shape c.args.p.0 c.args.store.now.store s c.push_modal.new.store.store rs label (map the_place c.push_modal.new.label.items) c.loop-middle.taken c.in-Some.middle c.in-Some-past_shape.next c.loop-middle.at.further part.sign f c.loop-middle.at.place kind w c.loop-middle.invariant.inside c.if-at-eq0.true c.in-Some.ensures.some c.in-Some-past_shape.ensures.some c.in_ok-push_modal.ensures.pushed c.push_modal.ensures.adds

pub below-at-requires-clause-small : goal.below-at-requires-clause-small
below-at-requires-clause-small c = c.loop-middle.invariant.small

pub below-at-requires-clause-place : goal.below-at-requires-clause-place
below-at-requires-clause-place c = (let z = c.if-at-eq0.false in omega (arith, z))

pub below-at-requires-clause-inside : goal.below-at-requires-clause-inside
below-at-requires-clause-inside c = c.loop-middle.invariant.inside

pub loop-middle-smaller : goal.loop-middle-smaller
loop-middle-smaller c = c.below-at.ensures.smaller

pub loop-middle-preserved : goal.loop-middle-preserved
loop-middle-preserved c =
    let P = c.args.problem.now in
    let s = c.loop-middle.store.store in
    let rs = map the_place c.args.values.now in
    let label = map the_place c.loop-middle.label.items in
    let part = c.loop-middle.at.part in
    let f = the_formula part.formula.now in
    let w = c.loop-middle.invariant.way in
    let kind : IsKind P c.logic-logic.result part.sign f c.kind_of-kind.result.modal c.kind_of-kind.result.shape = record { logic = c.logic-logic.ensures ∙ ap (λ (x : Setting). x.logic) c.setting.ensures.setting; modal_is = c.kind_of-kind.ensures.modal; shape_is = c.kind_of-kind.ensures.shape } in
    let z = c.if-at-eq0.false in
    let a = c.loop-middle.invariant.room in
    let b = c.push_modal.ensures.room in
    record {
      way = step-next P c.logic-logic.result c.kind_of-kind.result.modal c.kind_of-kind.result.shape c.args.p.0 c.args.store.now.store s c.push_modal.new.store.store rs label (map the_place c.push_modal.new.label.items) c.loop-middle.taken c.in-Some.middle c.in-Some-past_shape.next c.loop-middle.at.further part.sign f c.loop-middle.at.place (the_inside c.below-at.result) kind w c.loop-middle.invariant.inside (omega (arith, z)) c.in-Some.ensures.some c.in-Some-past_shape.ensures.some c.in_ok-push_modal.ensures.pushed c.push_modal.ensures.adds c.below-at.ensures.leads;
      right = right-further P c.logic-logic.result c.kind_of-kind.result.modal c.kind_of-kind.result.shape c.args.p.0 c.args.store.now.store s c.push_modal.new.store.store rs label (map the_place c.push_modal.new.label.items) c.loop-middle.taken c.in-Some.middle c.in-Some-past_shape.next c.loop-middle.at.further part.sign f c.loop-middle.at.place (the_inside c.below-at.result) kind w c.loop-middle.invariant.right (let l = c.loop-middle.invariant.inside in omega (arith, z, l)) c.in-Some.ensures.some c.in-Some-past_shape.ensures.some c.in_ok-push_modal.ensures.right c.below-at.ensures.leads;
      inside = c.below-at.ensures.inside;
      small = c.below-at.ensures.small;
      taken = c.in-Some-past_shape.ensures.within;
      room = (omega (arith, a, b), omega (arith, a, b));
    }

-- ---- what is built right

pub returns-then-p-size-clause-right : goal.returns-then-p-size-clause-right
returns-then-p-size-clause-right c = λ fits base low from a. (a, subst (λ xs. IsTrue (list_all (nat_le base) (map the_place xs))) (sym c.new-label.ensures.items) refl)

pub returns-in_default-clause-right : goal.returns-in_default-clause-right
returns-in_default-clause-right c = right-so_far c.args.problem.now c.args.p.0 c.args.store.now.store c.loop-middle.store.store (map the_place c.args.values.now) (map the_place c.loop-middle.label.items) c.loop-middle.taken c.loop-middle.at.further c.loop-middle.at.part.sign (the_formula c.loop-middle.at.part.formula.now) c.loop-middle.at.place c.loop-middle.invariant.right

pub returns-in_default-past_shape-clause-right : goal.returns-in_default-past_shape-clause-right
returns-in_default-past_shape-clause-right c = right-so_far c.args.problem.now c.args.p.0 c.args.store.now.store c.loop-middle.store.store (map the_place c.args.values.now) (map the_place c.loop-middle.label.items) c.loop-middle.taken c.loop-middle.at.further c.loop-middle.at.part.sign (the_formula c.loop-middle.at.part.formula.now) c.loop-middle.at.place c.loop-middle.invariant.right

pub returns-then-at-eq0-clause-right : goal.returns-then-at-eq0-clause-right
returns-then-at-eq0-clause-right c =
    let P = c.args.problem.now in
    let part = c.loop-middle.at.part in
    let f = the_formula part.formula.now in
    let kind : IsKind P c.logic-logic.result part.sign f c.kind_of-kind.result.modal c.kind_of-kind.result.shape = record { logic = c.logic-logic.ensures ∙ ap (λ (x : Setting). x.logic) c.setting.ensures.setting; modal_is = c.kind_of-kind.ensures.modal; shape_is = c.kind_of-kind.ensures.shape } in
    right-last P c.logic-logic.result c.kind_of-kind.result.modal c.kind_of-kind.result.shape c.args.p.0 c.args.store.now.store c.loop-middle.store.store c.push_modal.new.store.store (map the_place c.args.values.now) (map the_place c.loop-middle.label.items) (map the_place c.push_modal.new.label.items) c.loop-middle.taken c.loop-middle.at.further part.sign f c.loop-middle.at.place kind c.loop-middle.invariant.way c.loop-middle.invariant.right c.in_ok-push_modal.ensures.right
