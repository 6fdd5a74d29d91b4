use Rattle.search_tree.proofs.AheadLaws.{IsApartIn}
use Rattle.search_tree.proofs.WayUpLaws.{IsUpTo}
use Rattle.connection_search.proofs.ahead.may_reduce.Given as goal

abbrev pub invariant-loop-i : goal.invariant-loop-i
invariant-loop-i l = IsUpTo (IsApartIn l.store.store) l.tree.steps.items l.tree.goals.items l.goal l.above l._i
