use Rattle.std.proofs.Common.{ap, map}
use Rattle.formula_core.specs.GroundLists.{the_value}
use Rattle.name_order.specs.ByNumber.ReachedView.{the_keys, the_reached}
use Rattle.name_order.specs.PlaceView.{the_places}
use Rattle.name_order.proofs.ByNumber.WaitLaws.{parent-found}
use Rattle.name_order.proofs.guide.parent_of.Goals as goal

pub returns : goal.returns
returns c =
    let ls = c.args.table.now in
    parent-found ls (the_places c.args.places.now) (the_keys ls c.args.agenda.now.keys) (the_reached ls c.args.turn.now) c.as_slice-values.result.now c.taken_before-before.result c.in-Some.above c.in_ok-place.place (ap (map (the_value ls)) c.as_slice-values.ensures.value) c.taken_before-before.ensures.count c.in-Some.ensures c.in_ok-place.ensures
