use Rattle.tableau_reading.proofs.GatheringLaws.{Gathers}
use Rattle.search_tree.specs.Trees.{gammas_of}
use Rattle.tableau_reading.proofs.system.all_gammas.Given as goal

abbrev pub invariant-loop-k : goal.invariant-loop-k
invariant-loop-k l = Gathers gammas_of l.tree.steps.items l.gammas l.k
