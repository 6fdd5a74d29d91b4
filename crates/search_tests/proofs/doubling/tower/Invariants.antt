use Rattle.std.proofs.Common.{◌≤◌, ◌<◌, length}
use Rattle.search_tests.proofs.doubling.tower.Given as goal

abbrev pub invariant-loop-i : goal.invariant-loop-i
invariant-loop-i l = record {
  root : l.root.0 < length l.store.store.cells;
  last : l.last.0 < length l.store.store.cells;
  longer : length l.fn.store.store.cells ≤ length l.store.store.cells;
}
