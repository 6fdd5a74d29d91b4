use Rattle.std.proofs.Common.{◌≡◌}
use Rattle.term_store.specs.Room.{KeepsRoom}
use Rattle.term_store.specs.SystemView.{the_system}
use Rattle.domain_cond.proofs.ConditionLaws.{AllowEach}
use Rattle.domain_cond.proofs.unmet.unmet.Given as goal

abbrev pub invariant-loop-i : goal.invariant-loop-i
invariant-loop-i l = record {
  same : l.store.store ≡ l.initial.store.store;
  allow : AllowEach l.problem l.initial.store.store (the_system l.system).gammas l.i;
  room : KeepsRoom l.initial.store l.store;
}
