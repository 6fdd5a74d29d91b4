use Rattle.std.proofs.Common.{◌≡◌}
use Rattle.term_store.specs.Room.{KeepsRoom}
use Rattle.prefix_split.proofs.solving.solve_by_order.Given as goal

abbrev pub invariant-loop : goal.invariant-loop
invariant-loop g l = record {
  unchanged : l.store.store ≡ l.fn.store.store;
  same : g.M.Demand.holds_for l.more ≡ g.M.Demand.holds_for l.fn.more;
  same_common : g.M.Demand.common l.more ≡ g.M.Demand.common l.fn.more;
  same_problem : g.M.Demand.problem l.more ≡ g.M.Demand.problem l.fn.more;
  room : KeepsRoom l.fn.store l.store;
}
