use Rattle.formula_text.proofs.Passing.{error-passed}
use Rattle.finite_model.specs.Reading.{the_slot}
use Rattle.finite_model.proofs.EntryReading.{function-fault, function-passed, function-read}
use Rattle.finite_model.proofs.entries.read_function.Goals as goal

pub returns-in_err-read_next-clause-fault : goal.returns-in_err-read_next-clause-fault
returns-in_err-read_next-clause-fault c = λ line why e s h n. let k = error-passed c.from_residual-in_err-read_next.result c.in_err-read_next.field-0.0 _ c.from_residual-in_err-read_next.ensures.1 e in
    function-fault c.args.bytes.now c.args.elements c.args.symbols.now c.args.id.0 s c.is_function.result (the_slot c.in_ok-slot.slot) c.args.entries.now line why h (c.is_function.ensures s h) c.if-is_function.true (c.in_ok-slot.ensures s h n) (c.in_err-read_next.ensures.fault line why k)

pub returns-then-is_function-clause-ok : goal.returns-then-is_function-clause-ok
returns-then-is_function-clause-ok c = λ s h n. function-read c.args.bytes.now c.args.elements c.args.symbols.now c.args.id.0 s c.is_function.result (the_slot c.in_ok-slot.slot) c.args.entries.now _ h (c.is_function.ensures s h) c.if-is_function.true (c.in_ok-slot.ensures s h n) c.in_ok-read_next.ensures.ok

pub returns-clause-ok : goal.returns-clause-ok
returns-clause-ok c = λ s h n. function-passed c.args.bytes.now c.args.elements c.args.symbols.now c.args.id.0 s c.is_function.result c.args.entries.now h (c.is_function.ensures s h) c.if-is_function.false
