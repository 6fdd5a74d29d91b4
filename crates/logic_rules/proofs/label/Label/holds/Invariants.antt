use Rattle.std.proofs.Common.{◌≡◌, map, drop}
use Rattle.calculus.specs.Calculus.{holds_character}
use Rattle.logic_rules.specs.MarkView.{the_character}
use Rattle.logic_rules.proofs.label.Label.holds.Given as goal

abbrev pub invariant-loop-item : goal.invariant-loop-item
invariant-loop-item l = holds_character (the_character l.mark) (map the_character (drop l.item-index l.item-items)) ≡ holds_character (the_character l.mark) (map the_character l.item-items)
