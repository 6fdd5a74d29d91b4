use Rattle.std.proofs.Common.{map, refl}
use Rattle.formula_core.specs.GroundLists.{the_value}
use Rattle.name_order.specs.ByNumber.ReachedView.{the_keys}
use Rattle.name_order.specs.PlaceView.{the_places}
use Rattle.name_order.proofs.ByNumber.WaitLaws.{made-found, made-none}
use Rattle.name_order.proofs.awaited.made_introducer.Goals as goal

pub returns-then-is_pi : goal.returns-then-is_pi
returns-then-is_pi c =
    let ls = c.args.table.now in
    made-found (the_places c.args.places.now) (the_keys ls c.args.agenda.now.keys) c.args.position.0 (map (the_value ls) c.args.values.now) (map (the_value ls) c.args.values.now) c.is_pi.result c.in_ok-place.place c.is_pi.ensures c.if-is_pi.true refl c.in_ok-place.ensures

pub returns : goal.returns
returns c =
    let ls = c.args.table.now in
    made-none (the_places c.args.places.now) (the_keys ls c.args.agenda.now.keys) c.args.position.0 (map (the_value ls) c.args.values.now) c.is_pi.result c.is_pi.ensures c.if-is_pi.false
