use Rattle.std.proofs.Common.{◌≡◌, ◌<◌, ◌++◌, [], get_or, length, map, reverse}
use Rattle.logic_rules.specs.MarkView.{the_character}
use Rattle.label_table.proofs.label_reading.label_at.Given as goal

abbrev pub invariant-loop-front : goal.invariant-loop-front
invariant-loop-front l = record {
  within : l.at < length l.labels;
  read : get_or l.labels l.at [] ++ map the_character (reverse l.marks.items) ≡ get_or l.labels l.place [];
}

abbrev pub decreases-loop-front : goal.decreases-loop-front
decreases-loop-front l = l.at

abbrev pub invariant-loop-mark : goal.invariant-loop-mark
invariant-loop-mark l = l.label ++ map the_character (reverse l.marks.items) ≡ get_or l.labels l.place []

abbrev pub decreases-loop-mark : goal.decreases-loop-mark
decreases-loop-mark l = length l.marks.items
