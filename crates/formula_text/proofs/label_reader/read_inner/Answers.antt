use Rattle.formula_text.proofs.Marks.{inner-marks}
use Rattle.formula_text.proofs.label_reader.read_inner.Goals as goal

pub returns-clause-none : goal.returns-clause-none
returns-clause-none c = λ e to w h. c.read_marks.ensures.none e to w (inner-marks c.args.text.now c.args.from to w (c.has_byte.ensures.no c.if-has_byte.false) h)
