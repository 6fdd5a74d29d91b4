use Rattle.std.proofs.Common.{◌≡◌, ◌≤◌, ◌-◌, map, reverse, take, drop, length}
use Rattle.tableau_core.specs.Numbered.ClosingView.{the_closing}
use Rattle.tableau_cert.proofs.building.first_closings.Given as goal

-- What is taken are the first closings, and those behind them are left.

abbrev pub invariant-taking : goal.invariant-taking
invariant-taking l = record {
  taken : l.list ≡ map the_closing (take (length l.list) (reverse l.initial.stack.items));
  rest : reverse l.stack.items ≡ drop (length l.list) (reverse l.initial.stack.items);
  room : length l.list ≤ l.count;
}

abbrev pub decreases-taking : goal.decreases-taking
decreases-taking l = l.count - length l.list
