use Rattle.std.proofs.Common.{◌≡◌, ◌<◌, ◌++◌, [], drop, get_or, length, map}
use Rattle.logic_rules.specs.MarkView.{the_character}
use Rattle.label_table.specs.Longer.{IsLonger}
use Rattle.godel_transfer.specs.BranchView.{the_characters}
use Rattle.godel_transfer.specs.Transfer.{label_image}
use Rattle.godel_transfer.proofs.using.add_label_image.Given as goal

abbrev pub invariant-loop-mark : goal.invariant-loop-mark
invariant-loop-mark l = record {
  within : l.place < length l.labels;
  read : get_or l.labels l.place [] ++ label_image (the_characters l.characters) (map the_character (drop l.mark-index l.mark-items)) ≡ label_image (the_characters l.characters) l.label;
  grown : IsLonger l.initial.labels l.labels;
}
