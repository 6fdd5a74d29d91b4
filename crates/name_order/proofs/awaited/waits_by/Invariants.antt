use Rattle.std.proofs.Common.{take}
use Rattle.std.specs.List.{AllZip}
use Rattle.name_order.specs.ByNumber.Waiting.{WaitFor}
use Rattle.name_order.specs.ByNumber.ReachedView.{the_all, the_keys}
use Rattle.name_order.specs.PlaceView.{the_places}
use Rattle.name_order.proofs.awaited.waits_by.Given as goal

abbrev pub invariant-loop-turn : goal.invariant-loop-turn
invariant-loop-turn l = AllZip (WaitFor l.problem (the_places l.places) (the_keys l.table l.agenda.keys)) (the_all l.table (take l.turn-index l.turn-items)) l.all.items
