use Rattle.std.proofs.Common.{◌≡◌, length, replicate}
use Rattle.calculus.specs.declared.sort.Sort.TheVariants.{MarkSort}
use Rattle.store_theory.specs.Bindings.{KeepsMarks, places_from, with_variables_of}
use Rattle.term_store.specs.Room.{KeepsRoom}
use Rattle.term_store.proofs.store.Store.add_marks.Given as goal

abbrev pub invariant-loop-i : goal.invariant-loop-i
invariant-loop-i l = record {
  store : l.self.store ≡ with_variables_of (replicate l._i MarkSort) l.initial.self.store;
  places : l.variables.items ≡ places_from (length l.initial.self.store.cells) l._i;
  marks : KeepsMarks l.initial.self.store l.self.store;
  room : KeepsRoom l.initial.self l.self;
}
