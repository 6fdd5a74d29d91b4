use Rattle.std.proofs.Common.{◌≡◌, length}
use Rattle.std.specs.Vec.Iter.{into_iter_items, into_iter_len}
use Rattle.finite_model.proofs.MakingLaws.{IsTaken}
use Rattle.finite_model.proofs.making.take_entries.Given as goal

abbrev pub invariant-loop-entry : goal.invariant-loop-entry
invariant-loop-entry l = record {
  taken : IsTaken (into_iter_items l.fn.entries) l._entry l.taken.items (into_iter_items l.entries);
  len : into_iter_len l.entries ≡ length (into_iter_items l.entries);
}
