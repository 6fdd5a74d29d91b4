use Rattle.std.proofs.Common.{◌≡◌, ◌++◌, drop, length, map}
use Rattle.std.specs.Vec.Iter.{into_iter_items, into_iter_len}
use Rattle.finite_model.specs.Slots.{meanings_of}
use Rattle.finite_model.specs.StructureView.{the_lists, the_meaning}
use Rattle.finite_model.proofs.making.meanings_of.Given as goal

abbrev pub invariant-loop-place : goal.invariant-loop-place
invariant-loop-place l = record {
  left : map the_meaning l.meanings.items ++ meanings_of l.worlds (drop l.place l.symbols) (the_lists (into_iter_items l.tables)) (the_lists (into_iter_items l.rows)) ≡ meanings_of l.worlds l.symbols (the_lists l.fn.functions.items) (the_lists (into_iter_items l.fn.rows));
  tables : into_iter_len l.tables ≡ length (into_iter_items l.tables);
  rows : into_iter_len l.rows ≡ length (into_iter_items l.rows);
}
