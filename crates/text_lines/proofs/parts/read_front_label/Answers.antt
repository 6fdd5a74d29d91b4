use Rattle.std.proofs.Common.{◌+◌, length}
use Rattle.calculus.specs.Text.{label_text}
use Rattle.text_lines.proofs.PartLaws.{label-at}
use Rattle.formula_text.proofs.Passing.{error-passed}
use Rattle.text_lines.proofs.parts.read_front_label.Goals as goal

pub returns-in_err-label-clause-none : goal.returns-in_err-label-clause-none
returns-in_err-label-clause-none c = λ e w rest h.
    c.in_err-label.ensures.none (error-passed c.from_residual.result c.in_err-label.field-0.0 _ c.from_residual.ensures.1 e) (0 + length (label_text w)) w (label-at c.args.text.now w rest h)
