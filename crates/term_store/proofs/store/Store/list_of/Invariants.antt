use Rattle.std.proofs.Common.{◌≡◌, map, take}
use Rattle.term_store.specs.RefView.{the_place}
use Rattle.term_store.proofs.store.Store.list_of.Given as goal

abbrev pub invariant-loop-item : goal.invariant-loop-item
invariant-loop-item l = l.copied ≡ map the_place (take l.item-index l.refs)
