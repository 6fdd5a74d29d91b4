use Rattle.formula_text.proofs.RowsRead.{error-again}
use Rattle.formula_text.proofs.term_reader.read_items.Goals as goal

pub returns-in-Ok-Whole-clause-ok : goal.returns-in-Ok-Whole-clause-ok
returns-in-Ok-Whole-clause-ok c = rw c.in-Ok-Whole.field-0-is at c.in-Ok-Whole.ensures.ok

pub returns-in-Err-clause-none : goal.returns-in-Err-clause-none
returns-in-Err-clause-none c = λ e. c.in-Err.ensures.none (error-again _ _ e)
