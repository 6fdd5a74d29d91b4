use Rattle.std.proofs.Common.{arith, ap, sym, subst, ◌∙◌}
use Rattle.store_theory.specs.Bindings.{IsWellFormed, KeepsEarlier}
use Rattle.store_theory.specs.Stores.{IsGood, cut_at}
use Rattle.store_theory.proofs.BindingLaws.{IsWellFormed-cut_at, KeepsEarlier-cut_at}
use Rattle.term_store.specs.StoreView.{the_mark}
use Rattle.term_store.proofs.StoreFacts.{cut-store, laid-unbound, length-cells, sound, trail-alone, well-cut}
use Rattle.term_store.proofs.store.Store.undo.Goals as goal

pub unbind-requires-clause-fits : goal.unbind-requires-clause-fits
unbind-requires-clause-fits c = trail-alone c.self.inside.cells.list c.self.inside.parts.items c.self.inside.trail.list c.self.invariant.fits

pub cut-requires-clause-laid : goal.cut-requires-clause-laid
cut-requires-clause-laid c = rw c.unbind.ensures.slots (laid-unbound _ 0 0 c.self.inside.cells.list _ c.self.invariant.laid)

pub invariant_of-self : goal.invariant_of-self
invariant_of-self c =
    let g = subst (λ v. IsGood (the_mark c.args.m) v.store) (sym c.self.view_is) c.requires in
    let n = g.cells in
    let l = length-cells c.self.inside.cells.list c.self.inside.parts.items in
    well-cut (the_mark c.args.m) c.self.inside.cells.list c.cut.new.slots.list c.self.inside.parts.items c.cut.new.parts.items c.self.inside.trail.list c.unbind.new.trail.list c.self.invariant g
    (rw c.unbind.ensures.slots at c.cut.ensures.slots) c.cut.ensures.kept c.unbind.ensures.trail c.cut.ensures.laid (omega arith) c.cut.ensures.shorter

pub returns-clause-store : goal.returns-clause-store
returns-clause-store c =
    cut-store (the_mark c.args.m) c.self.inside.cells.list c.cut.new.slots.list c.self.inside.parts.items c.cut.new.parts.items c.self.inside.trail.list c.unbind.new.trail.list
    (rw c.unbind.ensures.slots at c.cut.ensures.slots) c.cut.ensures.kept c.unbind.ensures.trail
    ∙ ap (λ v. cut_at (the_mark c.args.m) v.store) c.self.view_is

pub returns-clause-marks : goal.returns-clause-marks
returns-clause-marks c = subst (KeepsEarlier (the_mark c.args.m) c.args.self.now.store) (sym (returns-clause-store c)) (KeepsEarlier-cut_at (the_mark c.args.m) c.args.self.now.store)

pub returns-clause-well : goal.returns-clause-well
returns-clause-well c =
    let w = subst (λ v. IsWellFormed v.store) c.self.view_is (sound c.self.inside.cells.list c.self.inside.parts.items c.self.inside.trail.list c.self.invariant) in
    subst IsWellFormed (sym (returns-clause-store c)) (IsWellFormed-cut_at (the_mark c.args.m) c.args.self.now.store w c.requires)
