use Rattle.std.proofs.Common.{◌≡◌, ◌-◌}
use Rattle.term_store.specs.Asking.{Asks}
use Rattle.term_store.specs.Room.{KeepsRoom}
use Rattle.term_store.specs.SystemView.{the_system}
use Rattle.prefix_split.specs.LengthSearch.{StandsAt}
use Rattle.prefix_split.proofs.solving.solve.Given as goal

abbrev pub invariant-loop-unifier : goal.invariant-loop-unifier
invariant-loop-unifier g l = record {
  stands : StandsAt l.logic (Asks (g.M.Demand.holds_for l.fn.more)) l.fn.store.store (the_system l.system) l.lengths.items l.fn.ledger.used l.ledger.used;
  unchanged : l.store.store ≡ l.fn.store.store;
  same : g.M.Demand.holds_for l.more ≡ g.M.Demand.holds_for l.fn.more;
  same_common : g.M.Demand.common l.more ≡ g.M.Demand.common l.fn.more;
  same_problem : g.M.Demand.problem l.more ≡ g.M.Demand.problem l.fn.more;
  budget : l.ledger.budget ≡ l.fn.ledger.budget;
  room : KeepsRoom l.fn.store l.store;
}

abbrev pub decreases-loop-unifier : goal.decreases-loop-unifier
decreases-loop-unifier g l = l.ledger.budget - l.ledger.used
