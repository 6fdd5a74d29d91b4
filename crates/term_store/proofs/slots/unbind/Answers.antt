use Rattle.std.proofs.Common.{arith, ap, length, refl, sym, ◌∙◌, ◌++◌, ◌∷◌, []}
use Rattle.std.proofs.lemmas.List.{length-take-le}
use Rattle.term_store.proofs.SlotLaws.{take-last, take-whole, unbind-none, unbind-place, unbind-turn}
use Rattle.term_store.proofs.slots.unbind.Goals as goal

pub loop-trail-init : goal.loop-trail-init
loop-trail-init c = record {
  slots = sym (unbind-none c.args.slots.now.list c.args.trail.now.list c.requires.fits);
  slots_len = refl;
  slots_spare = refl;
  trail = take-whole _ c.args.trail.now.list refl;
  longer = c.requires.entries;
  shorter = omega arith;
  spare = refl;
}

pub open_slot-requires : goal.open_slot-requires
open_slot-requires c =
    let e = take-last c.loop-trail.trail.list _ _ c.get-v.ensures (omega arith) in
    unbind-place c.args.slots.now.list c.loop-trail.slots.list c.args.trail.now.list c.loop-trail.trail.list _ c.get-v.result _ c.requires.fits c.loop-trail.invariant.slots c.loop-trail.invariant.trail e

pub loop-trail-preserved : goal.loop-trail-preserved
loop-trail-preserved c =
    let last = take-last c.loop-trail.trail.list _ _ c.get-v.ensures (omega arith) in
    let items = last ∙ ap (λ xs. xs ++ c.get-v.result ∷ []) (sym c.release.ensures.list) in
    let shorter = ap length c.release.ensures.list ∙ length-take-le _ c.loop-trail.trail.list (omega arith) in
    let w = unbind-turn c.args.slots.now.list c.loop-trail.slots.list c.open_slot.new.slots.list c.args.trail.now.list c.loop-trail.trail.list c.release.new.self.list c.get-v.result _ _ c.requires.fits c.loop-trail.invariant.slots c.loop-trail.invariant.trail (omega arith) items c.open_slot.ensures.slots refl in
    record {
      slots = w.0;
      slots_len = omega arith;
      slots_spare = omega arith;
      trail = w.1;
      longer = omega arith;
      shorter = omega arith;
      spare = omega arith;
    }
