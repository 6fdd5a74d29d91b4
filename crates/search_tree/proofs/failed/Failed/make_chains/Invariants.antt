use Rattle.std.proofs.Common.{◌≡◌}
use Rattle.search_tree.proofs.failed.Failed.make_chains.Given as goal

abbrev pub invariant-loop-i : goal.invariant-loop-i
invariant-loop-i l = record {
  entries : l.self.entries.items ≡ l.fn.self.entries.items;
  key : l.self.key.parts.items ≡ l.fn.self.key.parts.items;
}
