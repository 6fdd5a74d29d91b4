use Rattle.std.proofs.Common.{◌∙◌, IsTrue, ap, arith, map, subst, sym, ℕ}
use Rattle.std.proofs.lemmas.List.{length-map, take-map}
use Rattle.calculus.specs.declared.kind.ModalPart.TheVariants.{Pi}
use Rattle.store_theory.specs.Bindings.{with_cell, nothing_more}
use Rattle.calculus.specs.Labels.{pi_label}
use Rattle.store_theory.specs.Stores.{new_cell, parts_fit}
use Rattle.term_store.specs.RefView.{the_place}
use Rattle.domain_cond.specs.Ways.{IsPushed, PushesRight, TakesString}
use Rattle.domain_cond.proofs.RightLaws.{right-nothing, right-pushed, right-string}
use Rattle.domain_cond.proofs.WayLaws.{pushed-mark, pushed-nothing, pushed-string, taken-fits, takes-within}
use Rattle.domain_cond.proofs.home.push_modal.Goals as goal

pub value_at-requires : goal.value_at-requires
value_at-requires c = (let n = length-map c.args.values.now the_place in let l = takes-within c.args.store.now.store c.args.modal (map the_place c.args.values.now) c.args.taken c.in-Nu.is c.requires.takes in omega (arith, n, l))

pub new_mark-requires : goal.new_mark-requires
new_mark-requires c = subst (λ xs. IsTrue (parts_fit c.args.store.now.store (new_cell c.args.position.0 xs))) (take-map the_place c.args.taken c.args.values.now) (taken-fits c.args.store.now.store c.args.position.0 (map the_place c.args.values.now) c.args.taken c.requires.values)

pub returns-in-Plain-clause-pushed : goal.returns-in-Plain-clause-pushed
returns-in-Plain-clause-pushed c = subst (λ m. IsPushed c.args.logic c.args.store.now.store c.args.store.now.store m c.args.position.0 (map the_place c.args.values.now) c.args.taken (map the_place c.args.label.now.items) (map the_place c.args.label.now.items)) (sym c.in-Plain.is) (pushed-nothing c.args.logic c.args.store.now.store c.args.position.0 (map the_place c.args.values.now) c.args.taken (map the_place c.args.label.now.items))

pub returns-in-Plain-clause-adds : goal.returns-in-Plain-clause-adds
returns-in-Plain-clause-adds c = nothing_more

pub returns-in_err-push_item-in-Nu-clause-adds : goal.returns-in_err-push_item-in-Nu-clause-adds
returns-in_err-push_item-in-Nu-clause-adds c = nothing_more

pub returns-in_ok-push_item-in-Nu-clause-adds : goal.returns-in_ok-push_item-in-Nu-clause-adds
returns-in_ok-push_item-in-Nu-clause-adds c = nothing_more

pub returns-in_ok-push_item-in-Nu-clause-pushed : goal.returns-in_ok-push_item-in-Nu-clause-pushed
returns-in_ok-push_item-in-Nu-clause-pushed c = subst (λ m. IsPushed c.args.logic c.args.store.now.store c.args.store.now.store m c.args.position.0 (map the_place c.args.values.now) c.args.taken (map the_place c.args.label.now.items) (map the_place c.push_item.new.label.items)) (sym c.in-Nu.is) (pushed-string c.args.logic c.args.store.now.store c.args.position.0 (map the_place c.args.values.now) c.args.taken c.value_at.result.0 (map the_place c.args.label.now.items) (map the_place c.push_item.new.label.items) c.value_at.ensures (subst (λ m. (n : ℕ) × TakesString c.args.store.now.store m (map the_place c.args.values.now) c.args.taken n) c.in-Nu.is c.requires.takes) c.in_ok-push_item-in-Nu.ensures)

pub returns-in_ok-push_item-in-Pi-clause-pushed : goal.returns-in_ok-push_item-in-Pi-clause-pushed
returns-in_ok-push_item-in-Pi-clause-pushed c =
    let label = map the_place c.args.label.now.items in
    let after = map the_place c.push_item-in-Pi.new.label.items in
    let s = c.args.store.now.store in
    let rs = (map the_place c.args.values.now) in
    subst (λ m. IsPushed c.args.logic s c.new_mark.new.self.store m c.args.position.0 rs c.args.taken label after) (sym c.in-Pi.is)
    (subst (λ t. IsPushed c.args.logic s t Pi c.args.position.0 rs c.args.taken label after) (sym (c.in_ok-mark-in-Pi.ensures.ok ∙ ap (λ xs. with_cell (new_cell c.args.position.0 xs) s) (sym (take-map the_place c.args.taken c.args.values.now))))
    (pushed-mark c.args.logic s c.args.position.0 rs c.args.taken label after c.mark-now.ensures.well.fits (taken-fits s c.args.position.0 rs c.args.taken c.requires.values) (c.in_ok-push_item-in-Pi.ensures ∙ ap (pi_label c.args.logic label) c.in_ok-mark-in-Pi.ensures.place)))

pub returns-in-Plain-clause-right : goal.returns-in-Plain-clause-right
returns-in-Plain-clause-right c = subst (λ m. PushesRight c.args.store.now.store c.args.store.now.store m c.args.position.0 (map the_place c.args.values.now) c.args.taken (map the_place c.args.label.now.items) (map the_place c.args.label.now.items)) (sym c.in-Plain.is) (right-nothing c.args.store.now.store c.args.position.0 (map the_place c.args.values.now) c.args.taken (map the_place c.args.label.now.items))

pub returns-in_ok-push_item-in-Nu-clause-right : goal.returns-in_ok-push_item-in-Nu-clause-right
returns-in_ok-push_item-in-Nu-clause-right c = subst (λ m. PushesRight c.args.store.now.store c.args.store.now.store m c.args.position.0 (map the_place c.args.values.now) c.args.taken (map the_place c.args.label.now.items) (map the_place c.push_item.new.label.items)) (sym c.in-Nu.is) (right-string c.args.logic c.args.store.now.store c.args.position.0 (map the_place c.args.values.now) c.args.taken c.value_at.result.0 (map the_place c.args.label.now.items) (map the_place c.push_item.new.label.items) c.value_at.ensures c.in_ok-push_item-in-Nu.ensures)

pub returns-in_ok-push_item-in-Pi-clause-right : goal.returns-in_ok-push_item-in-Pi-clause-right
returns-in_ok-push_item-in-Pi-clause-right c =
    let label = map the_place c.args.label.now.items in
    let after = map the_place c.push_item-in-Pi.new.label.items in
    let s = c.args.store.now.store in
    let rs = (map the_place c.args.values.now) in
    subst (λ m. PushesRight s c.new_mark.new.self.store m c.args.position.0 rs c.args.taken label after) (sym c.in-Pi.is)
    (subst (λ t. PushesRight s t Pi c.args.position.0 rs c.args.taken label after) (sym (c.in_ok-mark-in-Pi.ensures.ok ∙ ap (λ xs. with_cell (new_cell c.args.position.0 xs) s) (sym (take-map the_place c.args.taken c.args.values.now))))
    (right-pushed c.args.logic s c.args.position.0 rs c.args.taken label after c.mark-now.ensures.well.fits c.requires.values (c.in_ok-push_item-in-Pi.ensures ∙ ap (pi_label c.args.logic label) c.in_ok-mark-in-Pi.ensures.place)))
