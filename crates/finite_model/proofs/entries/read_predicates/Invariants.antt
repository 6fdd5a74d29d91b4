use Rattle.std.proofs.Common.{◌≤◌, drop, length}
use Rattle.finite_model.specs.EntriesLeft.{Leads}
use Rattle.finite_model.specs.Slots.{predicate_slots}
use Rattle.finite_model.proofs.entries.read_predicates.Given as goal

abbrev pub invariant-loop-place : goal.invariant-loop-place
invariant-loop-place l = record {
  leads : Leads l.bytes (predicate_slots l.worlds l.elements l.symbols) l.fn.entries (predicate_slots l.worlds l.elements (drop l.place l.symbols)) l.entries;
  within : l.entries.place ≤ length l.bytes;
}
