use Rattle.formula_text.proofs.Apart.{names-apart}
use Rattle.formula_text.proofs.name.write_name.Goals as goal

pub returns-clause-apart : goal.returns-clause-apart
returns-clause-apart c = names-apart
