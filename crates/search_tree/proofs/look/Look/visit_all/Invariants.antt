use Rattle.std.proofs.Common.{length}
use Rattle.search_tree.specs.Looking.{AreBelow, GoesOn, bound_in, waiting_in}
use Rattle.search_tree.proofs.look.Look.visit_all.Given as goal

abbrev pub invariant-loop-i : goal.invariant-loop-i
invariant-loop-i l = record {
  goes : GoesOn l.store.store (bound_in l.initial.self) (waiting_in l.initial.self) (bound_in l.self) (waiting_in l.self);
  below : AreBelow (length l.store.store.cells) (waiting_in l.self);
}
