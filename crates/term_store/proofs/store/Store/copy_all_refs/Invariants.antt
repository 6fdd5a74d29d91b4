use Rattle.std.proofs.Common.{[], map, take}
use Rattle.store_theory.specs.Bindings.{AddsOver}
use Rattle.store_theory.specs.Patterns.{patterns_tree}
use Rattle.term_store.specs.PatternView.{the_pattern}
use Rattle.term_store.specs.RefView.{the_places}
use Rattle.term_store.specs.Room.{KeepsRoom}
use Rattle.term_store.specs.Signatures.{BuildsOver, allows_all}
use Rattle.term_store.proofs.CopyLaws.{Copied}
use Rattle.term_store.proofs.store.Store.copy_all_refs.Given as goal

abbrev pub invariant-loop-part : goal.invariant-loop-part
invariant-loop-part l = record {
  copied : Copied l.fn.self.store l.self.store (the_places l.variables) [] l.refs (map the_pattern (take l.part-index l.part-items));
  adds : AddsOver (the_places l.variables) l.fn.self.store l.self.store;
  within : BuildsOver (the_places l.variables) (λ sorts g. allows_all g sorts (patterns_tree (map the_pattern (take l.part-index l.part-items)))) l.fn.self.store l.self.store;
  room : KeepsRoom l.fn.self l.self;
}
