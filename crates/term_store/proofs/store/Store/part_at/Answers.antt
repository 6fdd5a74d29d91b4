use Rattle.std.proofs.Common.{subst, sym, ◌≡◌, Some}
use Rattle.std.specs.Prelude.{slice_get}
use Rattle.store_theory.specs.Bindings.{IsWellFormed}
use Rattle.term_store.proofs.StoreFacts.{sound, part-within, part-place}
use Rattle.term_store.proofs.store.Store.part_at.Goals as goal

pub returns-clause-within : goal.returns-clause-within
returns-clause-within c =
    let (d, at, b, n) = c.requires in
    let at' = subst (λ v. slice_get v.store.cells c.args.end.0 ≡ Some d) (sym c.self.view_is) at in
    let w = part-place c.self.inside.cells.list c.self.inside.parts.items c.self.inside.trail.list c.args.end.0 c.args.i c.get-start.result d c.get-start.ensures at' b n in
    part-within c.args.self.now.store c.args.end.0 c.args.i c.index.result.now d (subst (λ v. IsWellFormed v.store) c.self.view_is (sound _ _ _ c.self.invariant)) at (w.1 c.index.result.now c.index.ensures)
