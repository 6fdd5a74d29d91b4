use Rattle.std.proofs.Common.{◌≡◌, map, take}
use Rattle.term_store.specs.PatternView.{the_pattern}
use Rattle.term_store.proofs.pattern.copied.Given as goal

abbrev pub invariant-loop-item : goal.invariant-loop-item
invariant-loop-item l = map the_pattern l.copied.items ≡ map the_pattern (take l.item-index l.items)
