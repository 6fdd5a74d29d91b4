use Rattle.std.proofs.Common.{◌≡◌, ◌<◌, ◌++◌, [], drop, get_or, length, map}
use Rattle.logic_rules.specs.MarkView.{the_character}
use Rattle.label_table.specs.LabelTable.{HasEachOnce}
use Rattle.label_table.specs.Longer.{IsLonger}
use Rattle.label_table.proofs.labels.Labels.add_beginnings.Given as goal

abbrev pub invariant-loop-mark : goal.invariant-loop-mark
invariant-loop-mark l = record {
  within : l.place < length l.self;
  read : get_or l.self l.place [] ++ map the_character (drop l.mark-index l.mark-items) ≡ l.label;
  grown : IsLonger l.initial.self l.self;
  once : HasEachOnce l.self;
}
