use Rattle.prefix_split.specs.Beginnings.{Keeps}
use Rattle.prefix_split.proofs.refuting.add_nodes.Given as goal

abbrev pub invariant-loop-u : goal.invariant-loop-u
invariant-loop-u l = Keeps l.nodes l.initial.order l.order
