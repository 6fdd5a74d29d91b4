use Rattle.std.proofs.Common.{◌≡◌, ◌==◌, [], map, drop}
use Rattle.name_order.specs.ByNumber.Inside.{all_with_marks}
use Rattle.name_order.specs.ByNumber.NameView.{the_name}
use Rattle.name_order.specs.Found.{introducers_in}
use Rattle.name_order.specs.PlaceView.{the_places}
use Rattle.name_order.specs.ByNumber.ReachedView.{the_keys}
use Rattle.name_order.specs.Keeping.{keep_all}
use Rattle.name_order.proofs.awaited.wait_for_names.Given as goal

abbrev pub invariant-loop-name : goal.invariant-loop-name
invariant-loop-name l = keep_all ◌==◌ l.waits.keys (introducers_in (the_places l.places) (the_keys l.table l.agenda.keys) (all_with_marks l.problem (map (the_name l.table) (drop l.name-index l.names)))) ≡ keep_all ◌==◌ [] (introducers_in (the_places l.places) (the_keys l.table l.agenda.keys) (all_with_marks l.problem (map (the_name l.table) l.names)))
