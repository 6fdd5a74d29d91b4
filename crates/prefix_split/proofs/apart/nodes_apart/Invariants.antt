use Rattle.std.proofs.Common.{[]}
use Rattle.prefix_split.specs.Growing.{ComeApart}
use Rattle.prefix_split.proofs.apart.nodes_apart.Given as goal

abbrev pub invariant-loop-i : goal.invariant-loop-i
invariant-loop-i l = ComeApart l.store.store l.system.pairs l.nodes [] l.apart.items
