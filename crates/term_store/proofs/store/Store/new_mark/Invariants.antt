use Rattle.std.proofs.Common.{◌≡◌, map, take}
use Rattle.term_store.specs.RefView.{the_place}
use Rattle.term_store.proofs.store.Store.new_mark.Given as goal

abbrev pub invariant-loop-value : goal.invariant-loop-value
invariant-loop-value l = l.parts.items ≡ map the_place (take l.value-index l.values)
