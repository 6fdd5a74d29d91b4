use Rattle.formula_text.proofs.Passing.{error-passed}
use Rattle.finite_model.proofs.EntryReading.{predicate-fault, predicate-passed, predicate-read}
use Rattle.finite_model.proofs.entries.read_predicate.Goals as goal

pub returns-then-is_function-clause-ok : goal.returns-then-is_function-clause-ok
returns-then-is_function-clause-ok c = λ elements s h n. predicate-passed c.args.bytes.now c.args.worlds elements c.args.symbols.now c.args.id.0 s c.is_function.result c.args.entries.now h (c.is_function.ensures s h) c.if-is_function.true

pub returns-in_err-read_rows-clause-fault : goal.returns-in_err-read_rows-clause-fault
returns-in_err-read_rows-clause-fault c = λ line why e elements s h n. let k = error-passed c.from_residual.result c.in_err-read_rows.field-0.0 _ c.from_residual.ensures.1 e in
    predicate-fault c.args.bytes.now c.args.count c.args.worlds elements c.args.symbols.now c.args.id.0 s c.is_function.result c.args.entries.now line why h (c.is_function.ensures s h) c.if-is_function.false n (c.in_err-read_rows.ensures.fault line why k s h)

pub returns-clause-ok : goal.returns-clause-ok
returns-clause-ok c = λ elements s h n. predicate-read c.args.bytes.now c.args.count c.args.worlds elements c.args.symbols.now c.args.id.0 s c.is_function.result c.args.entries.now _ h (c.is_function.ensures s h) c.if-is_function.false n (c.in_ok-read_rows.ensures.ok s h)
