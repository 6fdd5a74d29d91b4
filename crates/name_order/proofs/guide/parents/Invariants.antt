use Rattle.std.proofs.Common.{◌≡◌, map, take}
use Rattle.name_order.specs.Found.{parent_in}
use Rattle.name_order.specs.ByNumber.ReachedView.{the_all, the_keys}
use Rattle.name_order.specs.PlaceView.{the_places}
use Rattle.name_order.proofs.guide.parents.Given as goal

abbrev pub invariant-loop-turn : goal.invariant-loop-turn
invariant-loop-turn l = l.all.items ≡ map (parent_in (the_places l.places) (the_keys l.table l.agenda.keys)) (the_all l.table (take l.turn-index l.turn-items))
