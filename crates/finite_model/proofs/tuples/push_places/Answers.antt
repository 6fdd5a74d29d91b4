use Rattle.std.proofs.Common.{◌+◌, ◌*◌, min, sym, append-nil, arith}
use Rattle.finite_model.proofs.TupleLaws.{pushed-places, places-pushed_all, place-itself}
use Rattle.finite_model.proofs.tuples.push_places.Goals as goal

pub loop-element-init : goal.loop-element-init
loop-element-init c = sym (append-nil c.args.places.now.items)

pub loop-element-preserved : goal.loop-element-preserved
loop-element-preserved c = pushed-places (λ x. min (c.args.place * c.args.elements + x) 18446744073709551615) c.args.domain.now c.args.places.now.items c.loop-element.places.items _ c.loop-element.element-index _ (omega arith) c.in_ok-push.ensures.items (c.place_with.ensures c.args.place (place-itself c.args.place (omega arith))) c.loop-element.invariant

pub returns : goal.returns
returns c = places-pushed_all (λ x. min (c.args.place * c.args.elements + x) 18446744073709551615) c.args.domain.now c.args.places.now.items c.loop-element.places.items c.loop-element.element-index (omega arith) c.loop-element.invariant
