use Rattle.std.proofs.Common.{◌≡◌, ◌<◌, ◌*◌, ◌-◌, ◌++◌, length, take}
use Rattle.cop_cells.specs.Layout.{spots, spots_of}
use Rattle.cop_cells.proofs.pages.Block.free.Given as goal

abbrev pub invariant-loop-taken : goal.invariant-loop-taken
invariant-loop-taken g l = record {
  some : 0 < l._taken;
  left : spots_of l.table.items ≡ take (length (spots_of l.fn.table.items) - l.count)
      (spots_of l.fn.table.items) ++ spots l.base.ptr (l.count - l._taken);
  at : l.places.at ≡ l.base.ptr;
  start : l.places.start ≡ (l.count - l._taken) * 4096;
  long : length l.places.slots ≡ l._taken * 4096;
}
