use Rattle.std.proofs.Common.{◌-◌, length}
use Rattle.formula_text.specs.RowReading.{IsBegun}
use Rattle.formula_text.proofs.term_reader.read_items.Given as goal

abbrev pub invariant-loop-end : goal.invariant-loop-end
invariant-loop-end l = IsBegun l.symbols l.text l.place l.stack.items l.items.items

abbrev pub decreases-loop-end : goal.decreases-loop-end
decreases-loop-end l = length l.text - l.place
