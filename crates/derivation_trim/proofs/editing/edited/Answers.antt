use Rattle.std.proofs.Common.{◌+◌, arith, ap, refl}
use Rattle.derivation_trim.specs.PlaceView.{the_place}
use Rattle.derivation_trim.proofs.EditLaws.{leads-next}
use Rattle.derivation_trim.proofs.editing.edited.Goals as goal

pub loop-edit-preserved : goal.loop-edit-preserved
loop-edit-preserved c = let l = c.loop-edit in
    let w = the_place l.branch.items l.parents.items l.table.items l.forks.items in
    let v = the_place c.turn.new.branch.items c.turn.new.parents.items c.turn.new.table.items c.turn.new.forks.items in
    leads-next c.logic-logic.result c.args.edits.now l.edit-index _ _ c.args.steps.now l.at (l.at + c.taken_by-at.result) _ c.index-steps-at.result l.out c.turn.new.out w v _
    (omega arith) refl (omega arith) c.index-steps-at.is (ap (λ i. l.at + i) c.taken_by-at.ensures) (λ xs go. c.in_ok-fits.ensures xs go c.if-not-fits.false) l.invariant
