use Rattle.prefix_split.specs.Beginnings.{Keeps}
use Rattle.prefix_split.proofs.rules.close_gaps.Given as goal

abbrev pub invariant-loop : goal.invariant-loop
invariant-loop l = Keeps l.nodes l.initial.order l.order
