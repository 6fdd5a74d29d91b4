use Rattle.std.proofs.Common.{refl}
use Rattle.finite_model.specs.Reading.{the_slot}
use Rattle.finite_model.proofs.EntryReading.{slot-missing}
use Rattle.finite_model.proofs.entries.read_slot.Goals as goal

pub returns-in_default-clause-none : goal.returns-in_default-clause-none
returns-in_default-clause-none c = λ line why e. slot-missing c.args.bytes.now c.args.from (the_slot c.args.slot.now) (c.in_default.ensures.none refl)
