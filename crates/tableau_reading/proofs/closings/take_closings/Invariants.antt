use Rattle.std.proofs.Common.{◌≡◌, ◌≤◌, ◌-◌, ◌++◌, drop, length, take}
use Rattle.tableau_reading.specs.Reading.{stacked}
use Rattle.tableau_reading.proofs.closings.take_closings.Given as goal

abbrev pub invariant-loop-i : goal.invariant-loop-i
invariant-loop-i l = record {
  taken : stacked l.initial.stack.items ≡ l.closings ++ stacked l.stack.items;
  fewer : length l.stack.items ≤ length l.initial.stack.items - l._i;
  front : l.closings ≡ take l._i (stacked l.initial.stack.items);
  others : stacked l.stack.items ≡ drop l._i (stacked l.initial.stack.items);
}
