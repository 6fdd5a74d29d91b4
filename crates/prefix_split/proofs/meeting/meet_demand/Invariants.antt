use Rattle.std.proofs.Common.{◌≡◌}
use Rattle.store_theory.specs.Systems.{cells_of}
use Rattle.search_theory.specs.KeepingCells.{SolvesRight}
use Rattle.term_store.specs.Asking.{Asks}
use Rattle.term_store.specs.Room.{KeepsRoom}
use Rattle.term_store.specs.SystemView.{the_system}
use Rattle.prefix_split.proofs.MeetingLaws.{IsMeeting, open_number}
use Rattle.prefix_split.proofs.meeting.meet_demand.Given as goal

abbrev pub invariant-loop-e : goal.invariant-loop-e
invariant-loop-e g l = record {
  meeting : IsMeeting (Asks (g.M.Demand.holds_for l.initial.more)) (the_system l.system) l.initial.store.store l.store.store;
  same : g.M.Demand.holds_for l.more ≡ g.M.Demand.holds_for l.initial.more;
  same_common : g.M.Demand.common l.more ≡ g.M.Demand.common l.initial.more;
  same_problem : g.M.Demand.problem l.more ≡ g.M.Demand.problem l.initial.more;
  right : SolvesRight (g.M.Demand.problem l.initial.more) (cells_of (the_system l.system)) l.initial.store.store l.store.store;
  room : KeepsRoom l.initial.store l.store;
}

abbrev pub decreases-loop-e : goal.decreases-loop-e
decreases-loop-e g l = open_number l.store.store.cells
