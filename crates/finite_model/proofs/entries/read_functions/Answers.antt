use Rattle.std.proofs.Common.{◌+◌, drop, arith}
use Rattle.plain_laws.proofs.Places.{get-there}
use Rattle.formula_text.proofs.Passing.{error-passed}
use Rattle.finite_model.specs.Slots.{function_slots}
use Rattle.finite_model.proofs.EntryReading.{fault-on, functions-done, leads-on, leads-same}
use Rattle.finite_model.proofs.NextSlots.{size-at, sizes-count}
use Rattle.finite_model.proofs.entries.read_functions.Goals as goal

pub loop-place-init : goal.loop-place-init
loop-place-init c = record { leads = leads-same c.args.bytes.now (function_slots c.args.elements c.args.symbols.now) c.args.entries.now; within = c.requires.within }

pub bounds-sizes-place : goal.bounds-sizes-place
bounds-sizes-place c = let e = sizes-count c.args.elements c.args.symbols.now c.args.sizes.now c.requires.sizes in omega arith

pub loop-place-preserved : goal.loop-place-preserved
loop-place-preserved c =
    let x = get-there c.args.symbols.now c.loop-place.place (omega arith) in
    record {
      leads = leads-on c.args.bytes.now (function_slots c.args.elements c.args.symbols.now) (function_slots c.args.elements (drop c.loop-place.place c.args.symbols.now)) (function_slots c.args.elements (drop (c.loop-place.place + 1) c.args.symbols.now)) c.args.entries.now c.loop-place.entries _ c.loop-place.invariant.leads
          (c.in_ok-read_function.ensures.ok x.0 x.1 (size-at c.args.elements c.args.symbols.now c.args.sizes.now c.loop-place.place x.0 c.requires.sizes x.1));
      within = c.in_ok-read_function.ensures.within;
    }

pub returns-in_err-read_function-clause-fault : goal.returns-in_err-read_function-clause-fault
returns-in_err-read_function-clause-fault c = λ line why e.
    let x = get-there c.args.symbols.now c.loop-place.place (omega arith) in
    let k = error-passed c.from_residual.result c.in_err-read_function.field-0.0 _ c.from_residual.ensures.1 e in
    fault-on c.args.bytes.now (function_slots c.args.elements c.args.symbols.now) (function_slots c.args.elements (drop c.loop-place.place c.args.symbols.now)) c.args.entries.now c.loop-place.entries line why c.loop-place.invariant.leads
    (c.in_err-read_function.ensures.fault line why k x.0 x.1 (size-at c.args.elements c.args.symbols.now c.args.sizes.now c.loop-place.place x.0 c.requires.sizes x.1))

pub returns-clause-ok : goal.returns-clause-ok
returns-clause-ok c = functions-done c.args.bytes.now c.args.elements c.args.symbols.now c.loop-place.place (function_slots c.args.elements c.args.symbols.now) c.args.entries.now c.loop-place.entries (omega arith) c.loop-place.invariant.leads
