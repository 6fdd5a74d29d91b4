use Rattle.std.proofs.Common.{◌≡◌, ◌∙◌, ◌+◌, ◌-◌, ap, ap₂, arith, drop, length, subst, sym, take}
use Rattle.store_theory.specs.Bindings.{EndsIn, IsEnd}
use Rattle.store_theory.specs.Stores.{parts_of}
use Rattle.term_store.specs.StoreView.{part_count}
use Rattle.term_store.proofs.StoreFacts.{parts-place}
use Rattle.term_store.proofs.store.Store.parts_at.Goals as goal

pub slice_bounds-result-end : goal.slice_bounds-result-end
slice_bounds-result-end c =
    let w = parts-place c.self.inside.cells.list c.self.inside.parts.items c.self.inside.trail.list c.args.end.0 c.get-slot.result c.self.invariant c.get-slot.ensures (subst (λ v. IsEnd v.store c.args.end.0) (sym c.self.view_is) c.requires) in
    let l = w.0 in
    let n = c.count_in.ensures in
    let m = ap length c.deref.ensures.value in
    omega arith

pub returns-clause-parts : goal.returns-clause-parts
returns-clause-parts c =
    let w = parts-place c.self.inside.cells.list c.self.inside.parts.items c.self.inside.trail.list c.args.end.0 c.get-slot.result c.self.invariant c.get-slot.ensures (subst (λ v. IsEnd v.store c.args.end.0) (sym c.self.view_is) c.requires) in
    let (v, d, e, at, q) = subst (λ v. EndsIn v.store c.args.end.0 (λ d. take (part_count c.get-slot.result.content) (drop c.get-slot.result.start c.self.inside.parts.items) ≡ parts_of d)) c.self.view_is w.1 in
    let n : c.get-slot.result.start + c.count_in.result - c.get-slot.result.start ≡ part_count c.get-slot.result.content = let m = c.count_in.ensures in omega arith in
    (v, d, e, at, ap₂ (λ k ps. take k (drop c.get-slot.result.start ps)) n c.deref.ensures.value ∙ q)
