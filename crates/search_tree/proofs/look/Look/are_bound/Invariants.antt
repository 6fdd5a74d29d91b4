use Rattle.search_tree.proofs.LookingLaws.{AreBoundTo}
use Rattle.search_tree.proofs.look.Look.are_bound.Given as goal

abbrev pub invariant-loop-i : goal.invariant-loop-i
invariant-loop-i l = AreBoundTo l.store.store l.self.bound.items l.i
