use Rattle.std.proofs.Common.{◌≡◌, ◌≤◌, ◌+◌, length, take}
use Rattle.store_theory.specs.Bindings.{KeepsMarks, with_variables_of}
use Rattle.term_store.specs.Room.{KeepsRoom, spare}
use Rattle.term_store.proofs.store.Store.new_variables.Given as goal

abbrev pub invariant-loop-sort : goal.invariant-loop-sort
invariant-loop-sort l = record {
  store : l.self.store ≡ with_variables_of (take l.sort-index l.sort-items) l.initial.self.store;
  marks : KeepsMarks l.initial.self.store l.self.store;
  room : KeepsRoom l.initial.self l.self;
  spare : length l.sort-items ≤ l.sort-index + spare l.self;
}
