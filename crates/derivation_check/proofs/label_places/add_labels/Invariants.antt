use Rattle.label_table.specs.Longer.{IsLonger}
use Rattle.derivation_check.specs.ArgumentView.{AreFirstPlaces}
use Rattle.derivation_check.proofs.label_places.add_labels.Given as goal

abbrev pub invariant-loop-i : goal.invariant-loop-i
invariant-loop-i l = record {
  places : AreFirstPlaces l.i l.stated l.table l.places.items;
  grown : IsLonger l.initial.table l.table;
}
