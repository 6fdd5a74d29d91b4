use Rattle.std.proofs.Common.{◌≤◌, ◌∙◌, IsTrue, ap, arith, subst, sym}
use Rattle.store_theory.specs.Stores.{is_store, parts_fit}
use Rattle.store_theory.specs.Bindings.{AddsOver, with_cell}
use Rattle.term_store.specs.Built.{named_cell}
use Rattle.term_store.specs.Room.{spare}
use Rattle.term_store.specs.StoreView.{the_store}
use Rattle.term_store.proofs.OwnLaws.{names-same, over-one}
use Rattle.term_store.proofs.StoreFacts.{length-cells}
use Rattle.term_store.proofs.WellLaws.{built-store, well-built}
use Rattle.term_store.proofs.store.Store.build.Goals as goal

pub invariant_of-self-2 : goal.invariant_of-self-2
invariant_of-self-2 c =
    let l = length-cells c.self.inside.cells.list c.self.inside.parts.items in
    let m = c.self.inside.parts.ok.0 in
    let room = subst (λ v. 1 ≤ spare v) (sym c.self.view_is) c.in_ok-reserve.ensures.ok in
    let st = ap (λ v. v.store) c.self.view_is ∙ c.in_ok-reserve.ensures.store in
    rw (c.push.ensures.list, c.in_ok-extend_from_slice.ensures.items, c.content_of-content.ensures)
    (well-built c.self.inside.cells.list c.self.inside.parts.items c.args.parts.now c.self.inside.trail.list c.args.name _ c.self.invariant (omega arith) (omega arith) (omega arith) (subst (λ s. IsTrue (parts_fit s (named_cell c.args.name c.args.parts.now))) (sym st) c.requires))

pub returns-clause-ok : goal.returns-clause-ok
returns-clause-ok c =
    let m = c.self.inside.parts.ok.0 in
    let st = ap (λ v. v.store) c.self.view_is ∙ c.in_ok-reserve.ensures.store in
    rw (c.push.ensures.list, c.in_ok-extend_from_slice.ensures.items, c.content_of-content.ensures)
    (built-store c.self.inside.cells.list c.self.inside.parts.items c.args.parts.now c.self.inside.trail.list c.args.name _ c.self.invariant.laid (omega arith) ∙ ap (with_cell (named_cell c.args.name c.args.parts.now)) st)

pub returns-clause-adds : goal.returns-clause-adds
returns-clause-adds c =
    let st = ap (λ v. v.store) c.self.view_is ∙ c.in_ok-reserve.ensures.store in
    subst (AddsOver c.args.parts.now c.args.self.now.store) (sym (returns-clause-ok c)) (over-one c.args.name c.args.parts.now c.args.self.now.store (subst (λ s. IsTrue (is_store s)) st c.self.invariant.fits) c.requires)

pub returns-in_err-reserve-clause-adds : goal.returns-in_err-reserve-clause-adds
returns-in_err-reserve-clause-adds c = subst (AddsOver c.args.parts.now c.args.self.now.store) (sym c.in_err-reserve.ensures.store) (names-same c.args.parts.now c.args.self.now.store)

pub returns-then-parts-len-clause-adds : goal.returns-then-parts-len-clause-adds
returns-then-parts-len-clause-adds c = subst (AddsOver c.args.parts.now c.args.self.now.store) (sym c.in_ok-reserve.ensures.store) (names-same c.args.parts.now c.args.self.now.store)

pub returns-in_err-extend_from_slice-clause-adds : goal.returns-in_err-extend_from_slice-clause-adds
returns-in_err-extend_from_slice-clause-adds c =
    let same = ap (λ ps. the_store c.self.inside.cells.list ps c.self.inside.trail.list) c.in_err-extend_from_slice.ensures.items ∙ ap (λ v. v.store) c.self.view_is ∙ c.in_ok-reserve.ensures.store in
    subst (AddsOver c.args.parts.now c.args.self.now.store) (sym same) (names-same c.args.parts.now c.args.self.now.store)
