use Rattle.formula_text.proofs.Apart.{labels-apart}
use Rattle.formula_text.proofs.label.write_label.Goals as goal

pub returns-clause-apart : goal.returns-clause-apart
returns-clause-apart c = labels-apart
