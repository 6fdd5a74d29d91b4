use Rattle.prefix_split.specs.Beginnings.{KeepsIn}
use Rattle.prefix_split.proofs.joining.draw_all.Given as goal

abbrev pub invariant-loop-u : goal.invariant-loop-u
invariant-loop-u l = KeepsIn l.store.store l.nodes l.initial.order l.order
