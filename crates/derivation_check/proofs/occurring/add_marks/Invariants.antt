use Rattle.std.proofs.Common.{◌≡◌, ◌<◌, ◌||◌, ℕ, [], get_or, length}
use Rattle.calculus.specs.Calculus.{holds_character}
use Rattle.calculus.specs.Derivations.{new_mark}
use Rattle.label_table.specs.Longer.{IsLonger}
use Rattle.derivation_branch.specs.Occurring.{holds}
use Rattle.derivation_check.proofs.occurring.add_marks.Given as goal

abbrev pub invariant-loop-front : goal.invariant-loop-front
invariant-loop-front l = record {
  within : l.at < length l.labels;
  held : (n : ℕ) → (holds l.marks n || holds_character (new_mark n) (get_or l.labels l.at [])) ≡ (holds l.initial.marks n || holds_character (new_mark n) (get_or l.labels l.place []));
  kept : IsLonger l.initial.marks l.marks;
}

abbrev pub decreases-loop-front : goal.decreases-loop-front
decreases-loop-front l = l.at
