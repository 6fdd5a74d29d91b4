use Rattle.std.proofs.Common.{ℕ, List, vec_len}
use Rattle.calculus.specs.Syntax.{Symbol}
use Rattle.formula_text.specs.Extends.{Extends}
use Rattle.formula_text.specs.RowWriting.{IsBehind, IsBetween}
use Rattle.formula_text.specs.declared.term_row.RowItem.{RowItem}
use Rattle.formula_text.proofs.row_writer.append_between.Given as goal

abbrev pub invariant-loop-count : goal.invariant-loop-count
invariant-loop-count l = record {
  behind : (symbols : List Symbol) (whole : List ℕ) (rest : List RowItem) → IsBetween symbols whole l.fn.out.items l.fn.left.items l.arity rest → IsBehind symbols whole l.out.items l.left.items rest;
  extends : Extends l.fn.out.items l.out.items;
}

abbrev pub decreases-loop-count : goal.decreases-loop-count
decreases-loop-count l = vec_len l.left
