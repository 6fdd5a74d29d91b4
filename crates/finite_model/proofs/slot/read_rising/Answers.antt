use Rattle.std.proofs.Common.{sym, ◌∙◌, ap}
use Rattle.calculus.specs.StructureText.{rises}
use Rattle.formula_text.proofs.Passing.{error-passed}
use Rattle.finite_model.proofs.FormLaws.{rising-none, rising-read, rising-refused}
use Rattle.finite_model.proofs.slot.read_rising.Goals as goal

pub returns-in_err-numbers-clause-none : goal.returns-in_err-numbers-clause-none
returns-in_err-numbers-clause-none c = λ e. rising-none c.args.most c.args.text.now (c.in_err-numbers.ensures.none (error-passed c.from_residual.result c.in_err-numbers.field-0.0 _ c.from_residual.ensures.1 e))

pub returns-then-rises-clause-ok : goal.returns-then-rises-clause-ok
returns-then-rises-clause-ok c = rising-read c.args.most c.args.text.now c.in_ok-numbers.numbers.items c.in_ok-numbers.ensures.text c.in_ok-numbers.ensures.below (ap rises (sym c.as_slice.ensures.value) ∙ sym c.rises.ensures ∙ c.if-rises.true)

pub returns-else-rises-clause-none : goal.returns-else-rises-clause-none
returns-else-rises-clause-none c = λ _. rising-refused c.args.most c.args.text.now c.in_ok-numbers.numbers.items c.in_ok-numbers.ensures.one (ap rises (sym c.as_slice.ensures.value) ∙ sym c.rises.ensures ∙ c.if-rises.false)
