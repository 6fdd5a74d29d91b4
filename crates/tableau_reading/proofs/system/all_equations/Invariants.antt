use Rattle.tableau_reading.proofs.GatheringLaws.{Gathers}
use Rattle.search_tree.specs.Trees.{equations_of}
use Rattle.tableau_reading.proofs.system.all_equations.Given as goal

abbrev pub invariant-loop-k : goal.invariant-loop-k
invariant-loop-k l = Gathers (equations_of l.tree.steps.items l.tree.goals.items) l.tree.steps.items l.equations l.k
