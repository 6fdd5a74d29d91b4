use Rattle.std.proofs.Common.{◌++◌, drop}
use Rattle.calculus.specs.Text.{term_text}
use Rattle.formula_text.specs.Extends.{Extends}
use Rattle.formula_text.specs.RowWriting.{IsWriting}
use Rattle.formula_text.proofs.row_writer.append_row.Given as goal

abbrev pub invariant-loop-item : goal.invariant-loop-item
invariant-loop-item l = record {
  writing : IsWriting l.symbols (l.fn.out.items ++ term_text l.symbols 0 l.row) l.out.items l.left.items (drop l.item-index l.item-items);
  extends : Extends l.fn.out.items l.out.items;
}
