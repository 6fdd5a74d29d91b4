use Rattle.tableau_reading.proofs.GatheringLaws.{Gathers}
use Rattle.search_tree.specs.Trees.{strings_of}
use Rattle.tableau_reading.proofs.system.all_strings.Given as goal

abbrev pub invariant-loop-k : goal.invariant-loop-k
invariant-loop-k l = Gathers (strings_of l.matrix) l.tree.steps.items l.strings l.k
