use Rattle.std.proofs.Common.{◌≡◌, ◌<◌, [], get_or, length}
use Rattle.calculus.specs.Derivations.{character_eq}
use Rattle.calculus.specs.Labels.{is_prefix}
use Rattle.label_table.proofs.labels.Labels.begins.Given as goal

abbrev pub invariant-loop-at : goal.invariant-loop-at
invariant-loop-at l = record {
  within : l.at < length l.self;
  same : is_prefix character_eq (get_or l.self l.first []) (get_or l.self l.at []) ≡ is_prefix character_eq (get_or l.self l.first []) (get_or l.self l.second []);
}

abbrev pub decreases-loop-at : goal.decreases-loop-at
decreases-loop-at l = l.at
