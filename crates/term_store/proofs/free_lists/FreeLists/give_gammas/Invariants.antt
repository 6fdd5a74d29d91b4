use Rattle.std.proofs.Common.{length}
use Rattle.term_store.proofs.free_lists.FreeLists.give_gammas.Given as goal

abbrev pub decreases-loop-gamma : goal.decreases-loop-gamma
decreases-loop-gamma l = length l.gammas.items
