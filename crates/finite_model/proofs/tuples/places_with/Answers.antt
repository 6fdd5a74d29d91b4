use Rattle.std.proofs.Common.{arith}
use Rattle.finite_model.proofs.TupleLaws.{longer-all, longer-on}
use Rattle.finite_model.proofs.tuples.places_with.Goals as goal

pub loop-place-preserved : goal.loop-place-preserved
loop-place-preserved c = longer-on c.args.elements c.args.domain.now c.args.places.now c.loop-place.more.items _ c.loop-place.place-index (omega arith) c.in_ok-push_places.ensures c.loop-place.invariant

pub returns : goal.returns
returns c = longer-all c.args.elements c.args.domain.now c.args.places.now c.loop-place.more.items c.loop-place.place-index (omega arith) c.loop-place.invariant
