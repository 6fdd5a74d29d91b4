use Rattle.term_store.proofs.SlotLaws.{change_at-read, length-change_at}
use Rattle.std.proofs.Common.{◌∙◌, ap, length}
use Rattle.term_store.specs.Slots.{open_content}
use Rattle.term_store.proofs.slots.open_slot.Goals as goal

pub returns-clause-slots : goal.returns-clause-slots
returns-clause-slots c = c.set.ensures.list ∙ change_at-read open_content c.args.v c.args.slots.now.list c.open.result c.get-slot.result c.get-slot.ensures c.open.ensures

pub returns-clause-len : goal.returns-clause-len
returns-clause-len c = ap length (returns-clause-slots c) ∙ length-change_at open_content c.args.v c.args.slots.now.list
