use Rattle.std.proofs.Common.{[]}
use Rattle.formula_text.proofs.Passing.{error-passed}
use Rattle.text_lines.proofs.PartLaws.{label-front, label-rest, not-empty}
use Rattle.text_lines.proofs.parts.read_whole_label.Goals as goal

pub returns-in_err-label-clause-none : goal.returns-in_err-label-clause-none
returns-in_err-label-clause-none c = λ e w h.
    c.in_err-label.ensures.none (error-passed c.from_residual.result c.in_err-label.field-0.0 _ c.from_residual.ensures.1 e) w [] (label-front c.args.text.now w h)

pub returns-else-is_empty-clause-none : goal.returns-else-is_empty-clause-none
returns-else-is_empty-clause-none c = λ _ w h. not-empty c.in_ok-label.rest.now _ c.is_empty.ensures c.if-is_empty.false (label-rest c.args.text.now _ _ c.in_ok-label.ensures.ok w h)
