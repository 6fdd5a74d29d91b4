use Rattle.std.proofs.Common.{length, map, take}
use Rattle.store_theory.specs.Bindings.{AddsOver}
use Rattle.term_store.specs.ClauseView.{the_pattern_atom}
use Rattle.term_store.specs.Copying.{AtomsCopied}
use Rattle.term_store.specs.RefView.{the_places}
use Rattle.std.specs.List.{list_all}
use Rattle.term_store.specs.Room.{KeepsRoom}
use Rattle.term_store.specs.Signatures.{BuildsOver, allows_atom}
use Rattle.term_store.proofs.store.Store.copy_atoms.Given as goal

abbrev pub invariant-loop-atom : goal.invariant-loop-atom
invariant-loop-atom l = record {
  copied : AtomsCopied l.self.store (the_places l.variables) (length l.initial.self.store.cells) l.initial.copied l.copied (map the_pattern_atom (take l.atom-index l.atoms));
  adds : AddsOver (the_places l.variables) l.initial.self.store l.self.store;
  within : BuildsOver (the_places l.variables) (λ sorts g. list_all (allows_atom g sorts) (map the_pattern_atom (take l.atom-index l.atoms))) l.initial.self.store l.self.store;
  room : KeepsRoom l.initial.self l.self;
}
