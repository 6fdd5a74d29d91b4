use Rattle.std.proofs.Common.{map, take}
use Rattle.term_store.specs.RefView.{the_place}
use Rattle.prefix_split.specs.Growing.{IsNodeOf}
use Rattle.prefix_split.proofs.growing.seek.Given as goal

abbrev pub invariant-loop-i : goal.invariant-loop-i
invariant-loop-i l = IsNodeOf l.store.store l.nodes (take l.i (map the_place l.label)) l.node
