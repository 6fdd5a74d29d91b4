use Rattle.std.proofs.Common.{arith}
use Rattle.formula_text.proofs.Passing.{error-passed}
use Rattle.finite_model.specs.Reading.{the_slot}
use Rattle.finite_model.specs.Slots.{world_slots}
use Rattle.finite_model.proofs.EntryReading.{worlds-begun, worlds-done, worlds-fault, worlds-on}
use Rattle.finite_model.proofs.entries.read_worlds.Goals as goal

pub loop-world-init : goal.loop-world-init
loop-world-init c = record { leads = worlds-begun c.args.bytes.now c.args.word.now c.args.after.now c.args.form c.args.worlds c.args.entries.now; within = c.requires }

pub loop-world-preserved : goal.loop-world-preserved
loop-world-preserved c = record {
  leads = worlds-on c.args.bytes.now c.args.word.now c.args.after.now c.args.form c.loop-world.world c.args.worlds (the_slot c.in_ok-slot.slot) (world_slots c.args.word.now c.args.after.now c.args.form 0 c.args.worlds) c.args.entries.now c.loop-world.entries _ (omega arith) c.in_ok-slot.ensures c.loop-world.invariant.leads c.in_ok-read_next.ensures.ok;
  within = c.in_ok-read_next.ensures.within;
}

pub returns-in_err-read_next-clause-fault : goal.returns-in_err-read_next-clause-fault
returns-in_err-read_next-clause-fault c = λ line why e. let k = error-passed c.from_residual-in_err-read_next.result c.in_err-read_next.field-0.0 _ c.from_residual-in_err-read_next.ensures.1 e in
    worlds-fault c.args.bytes.now c.args.word.now c.args.after.now c.args.form c.loop-world.world c.args.worlds (the_slot c.in_ok-slot.slot) (world_slots c.args.word.now c.args.after.now c.args.form 0 c.args.worlds) c.args.entries.now c.loop-world.entries line why (omega arith) c.in_ok-slot.ensures c.loop-world.invariant.leads (c.in_err-read_next.ensures.fault line why k)

pub returns-clause-ok : goal.returns-clause-ok
returns-clause-ok c = worlds-done c.args.bytes.now c.args.word.now c.args.after.now c.args.form c.loop-world.world c.args.worlds (world_slots c.args.word.now c.args.after.now c.args.form 0 c.args.worlds) c.args.entries.now c.loop-world.entries (omega arith) c.loop-world.invariant.leads
