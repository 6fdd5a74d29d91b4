use Rattle.formula_text.proofs.Apart.{terms-apart}
use Rattle.formula_text.proofs.row_writer.write_row.Goals as goal

pub returns-clause-apart : goal.returns-clause-apart
returns-clause-apart c = terms-apart c.args.symbols.now
