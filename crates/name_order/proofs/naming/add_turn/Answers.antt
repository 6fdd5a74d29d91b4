use Rattle.std.proofs.Common.{ap, map, refl, ◌∙◌}
use Rattle.formula_core.specs.GroundLists.{the_value}
use Rattle.name_order.specs.ByNumber.ReachedView.{the_reached}
use Rattle.name_order.specs.PlaceView.{the_places}
use Rattle.name_order.specs.WalkView.{the_turn_at}
use Rattle.name_order.specs.declared.naming.Naming.{Naming}
use Rattle.name_order.proofs.ByNumber.NamingLaws.{added-good, added-names, added-turns}
use Rattle.name_order.proofs.naming.add_turn.Goals as goal

pub returns-clause-good : goal.returns-clause-good
returns-clause-good c =
    let ls = c.args.source.now in
    let one = c.in_ok-add_eigen.ensures in
    let two = c.in_ok-add_character.ensures in
    let view = ap (the_turn_at c.args.turn.now.position) (c.in_ok-values.ensures.list ∙ ap (map (the_value ls)) c.deref.ensures.value) in
    added-good ls (the_places c.args.places.now) c.args.naming.now c.list_of.new.naming c.add_eigen.new.naming c.add_character.new.naming _ _ (the_reached ls c.args.turn.now) c.in_ok-values.ensures.kept c.in_ok-values.ensures.normal view one.table one.turns one.names two.table two.turns two.normal two.names refl refl c.in_ok-push.ensures.items

pub returns-clause-names : goal.returns-clause-names
returns-clause-names c =
    let ls = c.args.source.now in
    let one = c.in_ok-add_eigen.ensures in
    let two = c.in_ok-add_character.ensures in
    let view = ap (the_turn_at c.args.turn.now.position) (c.in_ok-values.ensures.list ∙ ap (map (the_value ls)) c.deref.ensures.value) in
    let new : Naming = record { table = c.add_character.new.naming.table; names = c.add_character.new.naming.names; turns = c.push.new.self } in
    added-names ls (the_places c.args.places.now) c.args.naming.now c.list_of.new.naming c.add_eigen.new.naming c.add_character.new.naming new _ (the_reached ls c.args.turn.now) c.in_ok-values.ensures.kept c.in_ok-values.ensures.normal view one.table one.turns one.names two.table two.turns two.normal two.names refl refl c.in_ok-push.ensures.items

pub returns-clause-turns : goal.returns-clause-turns
returns-clause-turns c =
    let ls = c.args.source.now in
    let one = c.in_ok-add_eigen.ensures in
    let two = c.in_ok-add_character.ensures in
    let view = ap (the_turn_at c.args.turn.now.position) (c.in_ok-values.ensures.list ∙ ap (map (the_value ls)) c.deref.ensures.value) in
    let new : Naming = record { table = c.add_character.new.naming.table; names = c.add_character.new.naming.names; turns = c.push.new.self } in
    added-turns ls (the_places c.args.places.now) c.args.naming.now c.list_of.new.naming c.add_eigen.new.naming c.add_character.new.naming new _ (the_reached ls c.args.turn.now) c.in_ok-values.ensures.kept c.in_ok-values.ensures.normal view one.table one.turns one.names two.table two.turns two.normal two.names refl refl c.in_ok-push.ensures.items
