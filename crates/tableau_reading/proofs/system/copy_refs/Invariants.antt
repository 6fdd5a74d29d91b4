use Rattle.std.proofs.Common.{◌≡◌, map, take}
use Rattle.term_store.specs.RefView.{the_place}
use Rattle.tableau_reading.proofs.system.copy_refs.Given as goal

abbrev pub invariant-loop-item : goal.invariant-loop-item
invariant-loop-item l = l.copied ≡ map the_place (take l.item-index l.refs)
