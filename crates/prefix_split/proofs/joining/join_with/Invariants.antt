use Rattle.prefix_split.specs.Beginnings.{KeepsIn}
use Rattle.prefix_split.proofs.joining.join_with.Given as goal

abbrev pub invariant-loop : goal.invariant-loop
invariant-loop l = KeepsIn l.store.store l.nodes l.initial.order l.order
