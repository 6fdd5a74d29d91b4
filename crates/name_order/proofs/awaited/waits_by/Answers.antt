use Rattle.std.proofs.Common.{arith}
use Rattle.name_order.specs.ByNumber.Waiting.{WaitFor}
use Rattle.name_order.specs.ByNumber.ReachedView.{the_keys, the_reached}
use Rattle.name_order.specs.PlaceView.{the_places}
use Rattle.name_order.proofs.ByNumber.WaitLaws.{zip-step}
use Rattle.name_order.proofs.awaited.waits_by.Goals as goal

pub loop-turn-preserved : goal.loop-turn-preserved
loop-turn-preserved c =
    let ls = c.args.table.now in
    zip-step (the_reached ls) (WaitFor c.args.problem.now (the_places c.args.places.now) (the_keys ls c.args.agenda.now.keys)) c.as_slice-turn-items.result.now c.loop-turn.turn-index c.turn-item.result _ c.loop-turn.all.items c.push.new.self.items c.in_ok-waits_of.field-0 (omega arith) c.turn-item.is c.loop-turn.invariant c.in_ok-waits_of.ensures c.in_ok-push.ensures.items
