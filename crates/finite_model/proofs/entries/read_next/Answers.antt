use Rattle.std.proofs.Common.{arith}
use Rattle.formula_text.proofs.Passing.{error-passed}
use Rattle.finite_model.specs.Reading.{the_slot}
use Rattle.finite_model.proofs.EntryReading.{next-fault, next-read}
use Rattle.finite_model.proofs.entries.read_next.Goals as goal

pub returns-in_err-entry-clause-fault : goal.returns-in_err-entry-clause-fault
returns-in_err-entry-clause-fault c = λ line why e. let k = error-passed c.from_residual.result c.in_err-entry.field-0.0 _ c.from_residual.ensures.1 e in
    next-fault c.args.bytes.now (the_slot c.args.slot.now) c.args.entries.now line _ why (c.in_err-entry.ensures.line line why k) (omega arith) (c.in_err-entry.ensures.cause line why k) (c.in_err-entry.ensures.none line why k)

pub returns-clause-ok : goal.returns-clause-ok
returns-clause-ok c = next-read c.args.bytes.now (the_slot c.args.slot.now) c.args.entries.now _ c.in_ok-entry.entry c.in_ok-push.ensures.items c.in_ok-entry.ensures.ok
