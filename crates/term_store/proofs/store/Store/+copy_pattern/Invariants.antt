use Rattle.std.proofs.Common.{◌*◌, ◌+◌, map, take}
use Rattle.store_theory.specs.Bindings.{AddsOver}
use Rattle.store_theory.specs.Patterns.{pattern_list_size, pattern_size, patterns_tree}
use Rattle.term_store.specs.PatternView.{the_pattern}
use Rattle.term_store.specs.RefView.{the_places}
use Rattle.term_store.specs.Room.{KeepsRoom}
use Rattle.term_store.specs.Signatures.{BuildsOver, allows_all}
use Rattle.term_store.proofs.CopyLaws.{Copied}
use Rattle.term_store.proofs.store.Store.+copy_pattern.Given as goal

abbrev pub invariant-copy_parts-loop-part : goal.invariant-copy_parts-loop-part
invariant-copy_parts-loop-part l = record {
  copied : Copied l.initial.self.store l.self.store (the_places l.variables) l.initial.places.items l.places.items (map the_pattern (take l.part-index l.part-items));
  adds : AddsOver (the_places l.variables) l.initial.self.store l.self.store;
  within : BuildsOver (the_places l.variables) (λ sorts g. allows_all g sorts (patterns_tree (map the_pattern (take l.part-index l.part-items)))) l.initial.self.store l.self.store;
  room : KeepsRoom l.initial.self l.self;
}

abbrev pub decreases-copy_pattern : goal.decreases-copy_pattern
decreases-copy_pattern l = 2 * pattern_size (the_pattern l.pattern.now)

abbrev pub decreases-copy_built : goal.decreases-copy_built
decreases-copy_built l = 2 * pattern_list_size l.parts.now + 1

abbrev pub decreases-copy_parts : goal.decreases-copy_parts
decreases-copy_parts l = 2 * pattern_list_size l.parts.now
