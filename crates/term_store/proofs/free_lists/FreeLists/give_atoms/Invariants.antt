use Rattle.std.proofs.Common.{length}
use Rattle.term_store.proofs.free_lists.FreeLists.give_atoms.Given as goal

abbrev pub decreases-loop-atom : goal.decreases-loop-atom
decreases-loop-atom l = length l.atoms.items
