use Rattle.std.proofs.Common.{◌≡◌, ◌++◌, IsTrue}
use Rattle.calculus.specs.Ground.{values_tree}
use Rattle.calculus.specs.TableauText.{values_text}
use Rattle.formula_core.specs.GroundLists.{the_values}
use Rattle.tableau_text.specs.Pieces.{are_written_pieces, pieces_text, work}
use Rattle.tableau_text.proofs.values_writer.write_values.Given as goal

abbrev pub invariant-loop-piece : goal.invariant-loop-piece
invariant-loop-piece l = record {
  text : l.out.items ++ pieces_text l.symbols l.table l.stack.items ≡ l.fn.out.items ++ values_text l.symbols (values_tree (the_values l.table l.fn.values));
  written : IsTrue (are_written_pieces l.symbols l.table l.stack.items);
}

abbrev pub decreases-loop-piece : goal.decreases-loop-piece
decreases-loop-piece l = work l.symbols l.table l.stack.items
