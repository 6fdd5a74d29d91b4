use Rattle.std.proofs.Common.{◌≡◌, map, take}
use Rattle.logic_rules.specs.MarkView.{the_character}
use Rattle.logic_rules.proofs.label.Label.copy.Given as goal

abbrev pub invariant-loop-mark : goal.invariant-loop-mark
invariant-loop-mark l = l.copied ≡ map the_character (take l.mark-index l.mark-items)
