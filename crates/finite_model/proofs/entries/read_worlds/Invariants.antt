use Rattle.std.proofs.Common.{◌-◌, ◌≤◌, length}
use Rattle.finite_model.specs.EntriesLeft.{Leads}
use Rattle.finite_model.specs.Slots.{world_slots}
use Rattle.finite_model.proofs.entries.read_worlds.Given as goal

abbrev pub invariant-loop-world : goal.invariant-loop-world
invariant-loop-world l = record {
  leads : Leads l.bytes (world_slots l.word l.after l.form 0 l.worlds) l.fn.entries (world_slots l.word l.after l.form l.world (l.worlds - l.world)) l.entries;
  within : l.entries.place ≤ length l.bytes;
}
