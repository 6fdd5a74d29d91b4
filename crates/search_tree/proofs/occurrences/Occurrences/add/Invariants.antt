use Rattle.std.proofs.Common.{◌≡◌}
use Rattle.search_tree.proofs.occurrences.Occurrences.add.Given as goal

abbrev pub invariant-loop-literal : goal.invariant-loop-literal
invariant-loop-literal l = l.self.starts ≡ l.initial.self.starts
