use Rattle.std.proofs.Common.{arith}
use Rattle.std.proofs.lemmas.Bool.{eq-eqb}
use Rattle.formula_text.proofs.Passing.{error-passed}
use Rattle.finite_model.proofs.FormLaws.{values-none, values-read, values-refused}
use Rattle.finite_model.proofs.slot.read_values.Goals as goal

pub returns-in_err-numbers-clause-none : goal.returns-in_err-numbers-clause-none
returns-in_err-numbers-clause-none c = λ e. values-none c.args.count c.args.most c.args.text.now (c.in_err-numbers.ensures.none (error-passed c.from_residual.result c.in_err-numbers.field-0.0 _ c.from_residual.ensures.1 e))

pub returns-then-len-count-clause-ok : goal.returns-then-len-count-clause-ok
returns-then-len-count-clause-ok c = values-read c.args.count c.args.most c.args.text.now c.in_ok-numbers.numbers.items c.in_ok-numbers.ensures.text c.in_ok-numbers.ensures.below (eq-eqb _ _ (omega arith))

pub returns-else-len-count-clause-none : goal.returns-else-len-count-clause-none
returns-else-len-count-clause-none c = λ _. values-refused c.args.count c.args.most c.args.text.now c.in_ok-numbers.numbers.items c.in_ok-numbers.ensures.one (λ e. omega arith)
