use Rattle.std.proofs.Common.{◌≡◌, ◌++◌, drop, map}
use Rattle.logic_rules.specs.MarkView.{the_character}
use Rattle.godel_transfer.specs.BranchView.{the_characters}
use Rattle.godel_transfer.specs.Transfer.{label_image}
use Rattle.godel_transfer.proofs.label_image.label_image.Given as goal

abbrev pub invariant-loop-mark : goal.invariant-loop-mark
invariant-loop-mark l = l.image ++ label_image (the_characters l.characters) (map the_character (drop l.mark-index l.mark-items)) ≡ label_image (the_characters l.characters) l.label
