use Rattle.std.proofs.Common.{◌≡◌, ◌≤◌, ◌+◌, ◌*◌, ◌-◌, ◌++◌, None, replicate, vec_len, vec_capacity}
use Rattle.cop_cells.specs.Layout.{blank_pages}
use Rattle.cop_cells.proofs.pages.push_pages.Given as goal

abbrev pub invariant-loop-cut : goal.invariant-loop-cut
invariant-loop-cut g l = record {
  items : l.table.items ≡ l.initial.table.items ++ blank_pages l.initial.places.at l._cut;
  room : vec_len l.table + (l.count - l._cut) ≤ vec_capacity l.table;
  base : l.base.ptr ≡ l.places.first;
  at : l.places.at ≡ l.initial.places.at;
  start : l.places.start ≡ l._cut * 4096;
  slots : l.places.slots ≡ replicate ((l.count - l._cut) * 4096) None;
}
