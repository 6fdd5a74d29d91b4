use Rattle.tableau_reading.proofs.GatheringLaws.{Sums}
use Rattle.search_tree.specs.Trees.{pis_of}
use Rattle.tableau_reading.proofs.system.all_pis.Given as goal

abbrev pub invariant-loop-k : goal.invariant-loop-k
invariant-loop-k l = Sums pis_of l.tree.steps.items l.total l.k
