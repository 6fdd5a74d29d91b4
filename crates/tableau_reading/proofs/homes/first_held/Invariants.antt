use Rattle.std.proofs.Common.{map}
use Rattle.term_store.specs.ClauseView.{the_gamma}
use Rattle.tableau_reading.specs.Held.{AreFirst}
use Rattle.tableau_reading.proofs.homes.first_held.Given as goal

abbrev pub invariant-loop-i : goal.invariant-loop-i
invariant-loop-i l = AreFirst l.store.store (map the_gamma l.gammas) l.i l.first.items
