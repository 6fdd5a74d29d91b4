use Rattle.std.proofs.Common.{◌<◌, ℕ, length}
use Rattle.store_theory.specs.Bindings.{IsWellFormed}
use Rattle.store_theory.specs.Stores.{EndsAt}
use Rattle.store_theory.proofs.WeightLaws.{weight}
use Rattle.term_store.specs.Shown.{Shows}
use Rattle.term_store.proofs.store.Store.end.Given as goal

abbrev pub invariant-loop-to : goal.invariant-loop-to
invariant-loop-to l = record {
  within : l.place.0 < length l.self.store.cells;
  leads : (v : ℕ) → EndsAt l.self.store l.place.0 v → EndsAt l.self.store l.fn.r.0 v;
  shows : Shows l.self.store l.place.0 l.content;
  well : IsWellFormed l.self.store;
}

abbrev pub decreases-loop-to : goal.decreases-loop-to
decreases-loop-to l = weight l.self.store l.place.0
