use Rattle.term_store.proofs.SlotLaws.{change_at-read, length-change_at}
use Rattle.std.proofs.Common.{◌∙◌, ap, length}
use Rattle.term_store.specs.Slots.{bound_content}
use Rattle.term_store.proofs.slots.bind_slot.Goals as goal

pub returns-clause-slots : goal.returns-clause-slots
returns-clause-slots c = c.set.ensures.list ∙ change_at-read (bound_content c.args.to) c.args.v c.args.slots.now.list c.bound.result c.get-slot.result c.get-slot.ensures c.bound.ensures

pub returns-clause-len : goal.returns-clause-len
returns-clause-len c = ap length (returns-clause-slots c) ∙ length-change_at (bound_content c.args.to) c.args.v c.args.slots.now.list
