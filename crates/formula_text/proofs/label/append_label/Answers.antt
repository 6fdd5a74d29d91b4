use Rattle.formula_text.proofs.Rests.{label-by_steps}
use Rattle.formula_text.proofs.label.append_label.Goals as goal

pub returns-clause-ok : goal.returns-clause-ok
returns-clause-ok c = label-by_steps _ _ _ _ c.args.label.now c.in_ok-append_byte.ensures.ok c.in_ok-append_marks.ensures.ok c.in_ok-append_byte-2.ensures.ok
