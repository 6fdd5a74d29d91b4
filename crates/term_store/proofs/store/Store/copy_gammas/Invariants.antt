use Rattle.std.proofs.Common.{length, map, take}
use Rattle.store_theory.specs.Bindings.{AddsOver}
use Rattle.term_store.specs.ClauseView.{the_pattern_gamma}
use Rattle.term_store.specs.RefView.{the_places}
use Rattle.std.specs.List.{list_all}
use Rattle.term_store.specs.Room.{KeepsRoom}
use Rattle.term_store.specs.Signatures.{BuildsOver, allows_gamma}
use Rattle.term_store.proofs.ListLaws.{GammasCopied}
use Rattle.term_store.proofs.store.Store.copy_gammas.Given as goal

abbrev pub invariant-loop-gamma : goal.invariant-loop-gamma
invariant-loop-gamma l = record {
  copied : GammasCopied l.self.store (the_places l.variables) (length l.fn.self.store.cells) l.copied (map the_pattern_gamma (take l.gamma-index l.gamma-items));
  adds : AddsOver (the_places l.variables) l.fn.self.store l.self.store;
  within : BuildsOver (the_places l.variables) (λ sorts g. list_all (allows_gamma g sorts) (map the_pattern_gamma (take l.gamma-index l.gamma-items))) l.fn.self.store l.self.store;
  room : KeepsRoom l.fn.self l.self;
}
