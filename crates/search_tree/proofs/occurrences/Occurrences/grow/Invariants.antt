use Rattle.std.proofs.Common.{◌-◌, length}
use Rattle.search_tree.proofs.occurrences.Occurrences.grow.Given as goal

abbrev pub decreases-loop-self : goal.decreases-loop-self
decreases-loop-self l = l.count - length l.self.starts.items
