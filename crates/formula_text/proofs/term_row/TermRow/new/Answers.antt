use Rattle.formula_text.proofs.RowLaws.{root-is, row-is}
use Rattle.formula_text.proofs.term_row.TermRow.new.Goals as goal

pub invariant_of-result : goal.invariant_of-result
invariant_of-result c = row-is c.args.items.items c.requires.0 c.requires.1

pub returns : goal.returns
returns c = λ t e. root-is c.args.items.items t e
