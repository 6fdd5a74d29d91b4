use Rattle.std.proofs.Common.{◌≤◌, ◌-◌, ◌∷◌, [], length}
use Rattle.tptp_reader.specs.Expecting.{items}
use Rattle.tptp_reader.specs.Failing.{Fails}
use Rattle.tptp_reader.specs.ItemStanding.{ItemsUpTo}
use Rattle.tptp_reader.proofs.text_reader.build_items.Given as goal

abbrev pub invariant-items : goal.invariant-items
invariant-items l = record { read : ItemsUpTo l.modal l.text l.items l.place; settles : Fails l.modal l.text (items ∷ []) l.place → Fails l.modal l.text (items ∷ []) 0; within : l.place ≤ length l.text }

abbrev pub decreases-items : goal.decreases-items
decreases-items l = length l.text - l.place
