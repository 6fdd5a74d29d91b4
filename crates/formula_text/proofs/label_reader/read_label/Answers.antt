use Rattle.std.proofs.Common.{sym, ◌∙◌}
use Rattle.std.proofs.lemmas.Bool.{false≢true}
use Rattle.calculus.proofs.ReadingLaws.{IsLabelAt-unique}
use Rattle.formula_text.proofs.Marks.{label-here, label-inner, no_end}
use Rattle.formula_text.proofs.Passing.{error-passed}
use Rattle.formula_text.proofs.label_reader.read_label.Goals as goal

pub returns-then-not-has_byte-clause-one : goal.returns-then-not-has_byte-clause-one
returns-then-not-has_byte-clause-one c = IsLabelAt-unique

pub returns-in_err-label-clause-none : goal.returns-in_err-label-clause-none
returns-in_err-label-clause-none c = λ e to w h.
    c.in_err-label.ensures.none (error-passed c.from_residual.result c.in_err-label.field-0.0 _ c.from_residual.ensures.1 e) to w (label-inner c.args.text.now c.args.from to w (c.has_byte.ensures.yes c.if-not-has_byte.false) h)

pub returns-in_err-label-clause-one : goal.returns-in_err-label-clause-one
returns-in_err-label-clause-one c = IsLabelAt-unique

pub returns-then-ends_at-clause-ok : goal.returns-then-ends_at-clause-ok
returns-then-ends_at-clause-ok c =
    label-here c.args.text.now c.args.from c.in_ok-label.to c.in_ok-label.label c.requires c.in_ok-label.ensures.within (c.has_byte.ensures.yes c.if-not-has_byte.false) c.in_ok-label.ensures.ok (c.ends_at.ensures.0 c.if-ends_at.true)

pub returns-then-ends_at-clause-one : goal.returns-then-ends_at-clause-one
returns-then-ends_at-clause-one c = IsLabelAt-unique

pub returns-else-ends_at-clause-none : goal.returns-else-ends_at-clause-none
returns-else-ends_at-clause-none c = λ _.
    no_end c.args.text.now c.args.from c.in_ok-label.to c.in_ok-label.label (c.has_byte.ensures.yes c.if-not-has_byte.false) c.in_ok-label.ensures.ok (λ e. false≢true (sym c.if-ends_at.false ∙ c.ends_at.ensures.1 e))

pub returns-else-ends_at-clause-one : goal.returns-else-ends_at-clause-one
returns-else-ends_at-clause-one c = IsLabelAt-unique
