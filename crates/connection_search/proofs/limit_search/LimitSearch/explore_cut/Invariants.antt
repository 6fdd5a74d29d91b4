use Rattle.std.proofs.Common.{◌≡◌}
use Rattle.connection_search.specs.Moments.{CutExploringAt, CutLeads, the_moment}
use Rattle.search_tree.specs.Weights.{work_left}
use Rattle.connection_search.proofs.limit_search.LimitSearch.explore_cut.Given as goal

abbrev pub invariant-loop-point : goal.invariant-loop-point
invariant-loop-point l = record {
  exploring : CutLeads l.self (CutExploringAt (the_moment l.initial.store l.initial.work l.initial.points.items l.initial.ledger l.initial.left)) (CutExploringAt (the_moment l.store l.work l.points.items l.ledger l.left));
  budget : l.ledger.budget ≡ l.initial.ledger.budget;
}

abbrev pub decreases-loop-point : goal.decreases-loop-point
decreases-loop-point l = work_left l.ledger.budget l.ledger.used l.points.items
