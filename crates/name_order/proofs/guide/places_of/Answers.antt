use Rattle.std.proofs.Common.{arith, IsSome}
use Rattle.name_order.specs.Found.{find_in}
use Rattle.name_order.specs.ByNumber.ReachedView.{the_keys, the_reached}
use Rattle.name_order.proofs.ByNumber.WaitLaws.{drop-tail, take-found}
use Rattle.name_order.proofs.guide.places_of.Goals as goal

pub loop-turn-preserved : goal.loop-turn-preserved
loop-turn-preserved c =
    let ls = c.args.table.now in
    let ks = the_keys ls c.args.agenda.now.keys in
    record {
      left = drop-tail (the_reached ls) (λ x. IsSome (find_in ks x)) c.args.turns.now c.loop-turn.turn-index c.turn-item.result (omega arith) c.loop-turn.invariant.left;
      found = take-found (the_reached ls) (find_in ks) c.args.turns.now c.loop-turn.turn-index c.turn-item.result _ c.loop-turn.all c.push.new.self c.in_ok-place_of.field-0 (omega arith) c.turn-item.is c.loop-turn.invariant.found c.in_ok-place_of.ensures c.in_ok-push.ensures.ok;
    }
