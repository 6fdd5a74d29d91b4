use Rattle.std.proofs.Common.{◌≡◌, map}
use Rattle.term_store.specs.RefView.{the_place}
use Rattle.term_store.specs.Room.{KeepsRoom}
use Rattle.domain_cond.proofs.ConditionLaws.{AllowTo}
use Rattle.domain_cond.proofs.unmet.unmet_term.Given as goal

abbrev pub invariant-loop-i : goal.invariant-loop-i
invariant-loop-i l = record {
  same : l.store.store ≡ l.initial.store.store;
  allow : AllowTo l.problem l.initial.store.store (map the_place l.leaves.items) l.gamma.label l.i;
  room : KeepsRoom l.initial.store l.store;
}
