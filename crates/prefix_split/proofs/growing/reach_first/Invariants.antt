use Rattle.std.proofs.Common.{map, take}
use Rattle.term_store.specs.RefView.{the_place}
use Rattle.prefix_split.specs.Growing.{IsReached}
use Rattle.prefix_split.proofs.growing.reach_first.Given as goal

abbrev pub invariant-loop-i : goal.invariant-loop-i
invariant-loop-i l = IsReached l.store.store l.logic l.system.strings l.initial.nodes.items l.nodes.items (take l.i (map the_place l.label)) l.node
