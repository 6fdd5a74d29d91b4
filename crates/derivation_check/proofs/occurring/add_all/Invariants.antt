use Rattle.std.proofs.Common.{◌≡◌, ◌||◌, ℕ, drop}
use Rattle.label_table.specs.Longer.{IsLonger}
use Rattle.derivation_branch.specs.Occurring.{holds}
use Rattle.derivation_check.proofs.occurring.add_all.Given as goal

abbrev pub invariant-loop-number : goal.invariant-loop-number
invariant-loop-number l = record {
  held : (n : ℕ) → (holds l.set n || holds (drop l.number-index l.numbers) n) ≡ (holds l.initial.set n || holds l.numbers n);
  kept : IsLonger l.initial.set l.set;
}
