use Rattle.std.proofs.Common.{◌≡◌, ◌++◌, IsTrue}
use Rattle.calculus.specs.Text.{term_text}
use Rattle.derivation_text.specs.TermWriting.{next_is_written, next_size, next_text}
use Rattle.term_table.specs.Table.{the_table_term}
use Rattle.derivation_text.proofs.term_writer.write_table_term.Given as goal

abbrev pub invariant-loop-next : goal.invariant-loop-next
invariant-loop-next l = record {
  text : l.out.items ++ next_text l.symbols l.table l.stack.items l.next ≡ l.fn.out.items ++ term_text l.symbols 0 (the_table_term l.table l.fn.term);
  written : IsTrue (next_is_written l.symbols l.table l.stack.items l.next);
}

abbrev pub decreases-loop-next : goal.decreases-loop-next
decreases-loop-next l = next_size l.symbols l.table l.stack.items l.next
