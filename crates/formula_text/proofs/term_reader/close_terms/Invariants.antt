use Rattle.std.proofs.Common.{◌≤◌, vec_len}
use Rattle.formula_text.specs.RowReading.{IsRead}
use Rattle.formula_text.proofs.term_reader.close_terms.Given as goal

abbrev pub invariant-loop-term : goal.invariant-loop-term
invariant-loop-term l = record {
  read : IsRead l.symbols l.text l.end l.stack.items l.items.items;
  onward : l.fn.end ≤ l.end;
}

abbrev pub decreases-loop-term : goal.decreases-loop-term
decreases-loop-term l = vec_len l.stack
