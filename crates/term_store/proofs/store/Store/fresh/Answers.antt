use Rattle.std.proofs.Common.{◌<◌, arith, subst, sym}
use Rattle.term_store.specs.Room.{spare}
use Rattle.term_store.proofs.WellLaws.{well-open}
use Rattle.term_store.proofs.StoreFacts.{length-cells, sound}
use Rattle.term_store.proofs.store.Store.fresh.Goals as goal

pub invariant_of-self : goal.invariant_of-self
invariant_of-self c =
    let l = length-cells c.self.inside.cells.list c.self.inside.parts.items in
    let room = subst (λ v. 0 < spare v) (sym c.self.view_is) c.requires in
    rw c.push.ensures.list (well-open _ _ _ c.args.sort _ c.self.invariant (omega arith) (omega arith))

pub returns-clause-well : goal.returns-clause-well
returns-clause-well c =
    let l = length-cells c.self.inside.cells.list c.self.inside.parts.items in
    let room = subst (λ v. 0 < spare v) (sym c.self.view_is) c.requires in
    rw c.push.ensures.list (sound _ _ _ (well-open _ _ _ c.args.sort _ c.self.invariant (omega arith) (omega arith)))
