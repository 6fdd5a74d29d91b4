use Rattle.std.proofs.Common.{◌≡◌}
use Rattle.store_theory.specs.Stores.{IsGood, TrailMark}
use Rattle.term_store.specs.Room.{KeepsRoom}
use Rattle.connection_search.specs.Exploring.{AreAbove, KeepsMoment}
use Rattle.connection_search.specs.Moments.{ExploringAt, Leads, the_moment}
use Rattle.search_tree.specs.Failing.{AreFailed}
use Rattle.search_tree.specs.Weights.{work_left}
use Rattle.connection_search.proofs.limit_search.LimitSearch.explore.Given as goal

abbrev pub invariant-loop-ledger : goal.invariant-loop-ledger
invariant-loop-ledger l = record {
  exploring : Leads l.self (ExploringAt (the_moment l.initial.store l.initial.work l.initial.points.items l.initial.ledger l.initial.left)) (ExploringAt (the_moment l.store l.work l.points.items l.ledger l.left));
  failed : AreFailed l.self.problem.now l.self.limit l.failed;
  budget : l.ledger.budget ≡ l.initial.ledger.budget;
  moment : (k : TrailMark) → IsGood k l.initial.store.store → AreAbove k l.initial.points.items → KeepsMoment k l.initial.store.store l.store.store;
  above : (k : TrailMark) → IsGood k l.initial.store.store → AreAbove k l.initial.points.items → AreAbove k l.points.items;
  room : KeepsRoom l.initial.store l.store;
}

abbrev pub decreases-loop-ledger : goal.decreases-loop-ledger
decreases-loop-ledger l = work_left l.ledger.budget l.ledger.used l.points.items
