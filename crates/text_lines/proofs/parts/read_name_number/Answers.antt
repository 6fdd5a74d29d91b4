use Rattle.text_lines.proofs.PartLaws.{no-name}
use Rattle.text_lines.proofs.parts.read_name_number.Goals as goal

pub returns-else-n-ge1-clause-none : goal.returns-else-n-ge1-clause-none
returns-else-n-ge1-clause-none c = λ _. no-name c.args.text.now _ c.in_ok-n.ensures.some c.if-n-ge1.false
