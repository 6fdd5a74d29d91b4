use Rattle.std.proofs.Common.{◌≤◌, drop, length}
use Rattle.finite_model.specs.EntriesLeft.{Leads}
use Rattle.finite_model.specs.Slots.{function_slots}
use Rattle.finite_model.proofs.entries.read_functions.Given as goal

abbrev pub invariant-loop-place : goal.invariant-loop-place
invariant-loop-place l = record {
  leads : Leads l.bytes (function_slots l.elements l.symbols) l.fn.entries (function_slots l.elements (drop l.place l.symbols)) l.entries;
  within : l.entries.place ≤ length l.bytes;
}
