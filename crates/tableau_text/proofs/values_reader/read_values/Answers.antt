use Rattle.std.proofs.Common.{refl}
use Rattle.formula_text.proofs.Passing.{error-passed}
use Rattle.tableau_text.proofs.ValuesLaws.{no-brace, none-inside, none-whole, whole-normal, whole-read}
use Rattle.tableau_text.proofs.values_reader.read_values.Goals as goal

pub returns-in_default-clause-none : goal.returns-in_default-clause-none
returns-in_default-clause-none c = λ _. no-brace c.args.symbols.now c.args.text.now (c.in_default.ensures.none refl)

pub returns-in_err-item-clause-none : goal.returns-in_err-item-clause-none
returns-in_err-item-clause-none c = λ e. none-inside c.args.symbols.now c.args.text.now c.in-Some.inner.now c.in-Some.ensures.some (c.in_err-item.ensures.none (error-passed c.from_residual.result c.in_err-item.field-0.0 _ c.from_residual.ensures.1 e))

pub returns-in_err-values-clause-none : goal.returns-in_err-values-clause-none
returns-in_err-values-clause-none c = λ e.
    none-whole c.args.symbols.now c.args.text.now c.in-Some.inner.now c.in_ok-item.rest.now c.read_inside.new.table c.in_ok-item.item c.in-Some.ensures.some c.in_ok-item.ensures.ok (c.in_err-values.ensures.none (error-passed c.from_residual-in_err-values.result c.in_err-values.field-0.0 _ c.from_residual-in_err-values.ensures.1 e))

pub returns-clause-ok : goal.returns-clause-ok
returns-clause-ok c = whole-read c.args.symbols.now c.args.text.now c.in-Some.inner.now c.in_ok-item.rest.now c.read_inside.new.table c.in_ok-item.item c.in_ok-values.values c.in-Some.ensures.some c.in_ok-values.ensures.ok c.in_ok-item.ensures.ok

pub returns-clause-normal : goal.returns-clause-normal
returns-clause-normal c = whole-normal c.read_inside.new.table c.in_ok-item.item c.in_ok-values.values c.in_ok-item.rest.now c.in_ok-values.ensures.ok c.in_ok-item.ensures.normal
