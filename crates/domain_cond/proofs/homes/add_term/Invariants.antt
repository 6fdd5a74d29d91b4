use Rattle.store_theory.specs.Bindings.{AddsBuilt}
use Rattle.search_theory.specs.HomesTold.{HomesAllow}
use Rattle.term_store.specs.ClauseView.{the_gamma}
use Rattle.term_store.specs.Room.{KeepsRoom}
use Rattle.domain_cond.specs.Conditions.{AddsHomes}
use Rattle.domain_cond.proofs.homes.add_term.Given as goal

abbrev pub invariant-loop-i : goal.invariant-loop-i
invariant-loop-i l = record {
  added : AddsHomes (λ σ. HomesAllow l.problem l.initial.store.store σ (the_gamma l.gamma)) l.initial.store.store l.store.store l.initial.homes l.homes;
  adds : AddsBuilt l.initial.store.store l.store.store;
  room : KeepsRoom l.initial.store l.store;
}
