use Rattle.std.proofs.Common.{[]}
use Rattle.store_theory.specs.Bindings.{AddsBuilt}
use Rattle.store_theory.specs.Systems.{AllAllowed, MeetsDemand}
use Rattle.term_store.specs.Room.{KeepsRoom}
use Rattle.term_store.specs.SystemView.{the_system}
use Rattle.domain_cond.specs.Conditions.{AddsHomes}
use Rattle.domain_cond.proofs.homes.all_homes.Given as goal

abbrev pub invariant-loop-i : goal.invariant-loop-i
invariant-loop-i l = record {
  added : AddsHomes (MeetsDemand (AllAllowed l.problem) (the_system l.system)) l.initial.store.store l.store.store [] l.homes;
  adds : AddsBuilt l.initial.store.store l.store.store;
  room : KeepsRoom l.initial.store l.store;
}
