use Rattle.std.proofs.Common.{◌≡◌, map, take}
use Rattle.term_store.specs.RefView.{the_place}
use Rattle.tableau_reading.specs.Held.{mark_all}
use Rattle.tableau_reading.proofs.homes.mark_cells.Given as goal

abbrev pub invariant-loop-i : goal.invariant-loop-i
invariant-loop-i l = l.first.items ≡ mark_all l.initial.first.items (take l.i (map the_place l.refs)) l.number
