use Rattle.std.proofs.Common.{◌≡◌, ◌++◌, map, take}
use Rattle.term_store.specs.ClauseView.{the_gamma}
use Rattle.tableau_reading.proofs.system.add_gammas.Given as goal

abbrev pub invariant-loop-item : goal.invariant-loop-item
invariant-loop-item l = l.gammas ≡ l.initial.gammas ++ map the_gamma (take l.item-index l.items)
