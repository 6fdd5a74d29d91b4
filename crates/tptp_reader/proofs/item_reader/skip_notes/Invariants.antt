use Rattle.std.proofs.Common.{◌≤◌, ◌-◌, ◌∷◌, [], Bool, length}
use Rattle.tptp_reader.specs.Expecting.{notes}
use Rattle.tptp_reader.specs.Failing.{FailsAt, dot_and_items}
use Rattle.std.specs.Prelude.{reverse}
use Rattle.tptp_reader.specs.ItemStanding.{NotesUpTo}
use Rattle.tptp_reader.proofs.item_reader.skip_notes.Given as goal

abbrev pub invariant-notes : goal.invariant-notes
invariant-notes l = record {
  read : NotesUpTo l.text l.p (reverse l.waiting.items) l.here;
  settles : (modal : Bool) → FailsAt modal l.text (notes (reverse l.waiting.items) ∷ dot_and_items) l.here → FailsAt modal l.text (notes [] ∷ dot_and_items) l.p;
  onward : l.p.end ≤ l.here.end;
  within : l.here.end ≤ length l.text;
}

abbrev pub decreases-notes : goal.decreases-notes
decreases-notes l = length l.text - l.here.end
