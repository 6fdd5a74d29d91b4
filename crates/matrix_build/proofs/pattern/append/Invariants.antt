use Rattle.std.proofs.Common.{◌≡◌, ◌++◌, map, take}
use Rattle.term_store.specs.PatternView.{the_pattern}
use Rattle.matrix_build.proofs.pattern.append.Given as goal

abbrev pub invariant-loop-item : goal.invariant-loop-item
invariant-loop-item l = l.all ≡ l.initial.all ++ map the_pattern (take l.item-index l.item-items)
