use Rattle.std.proofs.Common.{refl}
use Rattle.formula_text.proofs.Passing.{error-passed}
use Rattle.finite_model.proofs.SlotReading.{line-missing, line-refused, line-read}
use Rattle.finite_model.proofs.slot.Slot.read.Goals as goal

pub returns-in_default-clause-none : goal.returns-in_default-clause-none
returns-in_default-clause-none c = λ _. line-missing c.args.self.now c.args.line.now c.as_slice.result.now c.as_slice.ensures.value (c.in_default.ensures.none refl)

pub returns-in_err-entry-clause-none : goal.returns-in_err-entry-clause-none
returns-in_err-entry-clause-none c = λ e. line-refused c.args.self.now c.args.line.now c.as_slice.result.now c.in-Some.rest.now c.as_slice.ensures.value c.in-Some.ensures.some (c.in_err-entry.ensures.none (error-passed c.from_residual.result c.in_err-entry.field-0.0 _ c.from_residual.ensures.1 e))

pub returns-clause-ok : goal.returns-clause-ok
returns-clause-ok c = line-read c.args.self.now c.args.line.now c.as_slice.result.now c.in-Some.rest.now c.in_ok-entry.entry.items c.as_slice.ensures.value c.in-Some.ensures.some c.in_ok-entry.ensures.ok
