use Rattle.std.proofs.Common.{map}
use Rattle.formula_core.specs.GroundLists.{the_value, the_values}
use Rattle.name_order.specs.ByNumber.ReachedView.{the_keys}
use Rattle.name_order.specs.PlaceView.{the_places}
use Rattle.name_order.proofs.ByNumber.WaitLaws.{eigen-found, eigen-none}
use Rattle.name_order.proofs.awaited.eigen_introducer.Goals as goal

pub returns-then-is_delta : goal.returns-then-is_delta
returns-then-is_delta c =
    let ls = c.args.table.now in
    eigen-found (the_places c.args.places.now) (the_keys ls c.args.agenda.now.keys) c.args.position.0 (the_values ls c.args.values) (map (the_value ls) c.values-list.result.now) c.is_delta.result c.in_ok-place.place c.is_delta.ensures c.if-is_delta.true c.values-list.ensures.list c.in_ok-place.ensures

pub returns : goal.returns
returns c =
    let ls = c.args.table.now in
    eigen-none (the_places c.args.places.now) (the_keys ls c.args.agenda.now.keys) c.args.position.0 (the_values ls c.args.values) c.is_delta.result c.is_delta.ensures c.if-is_delta.false
