use Rattle.std.proofs.Common.{◌∙◌, IsTrue, ap, arith, map, refl, subst, sym}
use Rattle.store_theory.specs.Bindings.{nothing_more, with_cell}
use Rattle.store_theory.specs.Stores.{new_cell, parts_fit}
use Rattle.cop_base.proofs.Items.{map-end}
use Rattle.term_store.specs.RefView.{the_place}
use Rattle.term_store.proofs.store.Store.new_mark.Goals as goal

pub build-requires : goal.build-requires
build-requires c =
    let whole = c.deref.ensures.value ∙ c.loop-value.invariant ∙ map-end the_place c.args.values.now (map the_place c.args.values.now) c.loop-value.value-index refl (omega arith) in
    subst (λ xs. IsTrue (parts_fit c.args.self.now.store (new_cell c.args.p.0 xs))) (sym whole) c.requires

pub returns-clause-ok : goal.returns-clause-ok
returns-clause-ok c =
    let whole = c.deref.ensures.value ∙ c.loop-value.invariant ∙ map-end the_place c.args.values.now (map the_place c.args.values.now) c.loop-value.value-index refl (omega arith) in
    c.in_ok-mark.ensures.ok ∙ ap (λ xs. with_cell (new_cell c.args.p.0 xs) c.args.self.now.store) whole

pub returns-in_err-push-clause-adds : goal.returns-in_err-push-clause-adds
returns-in_err-push-clause-adds c = nothing_more
