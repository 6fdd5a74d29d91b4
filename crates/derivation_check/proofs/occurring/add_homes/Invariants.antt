use Rattle.std.proofs.Common.{◌≡◌, ◌||◌, ℕ, [], drop, get_or}
use Rattle.std.specs.List.{list_any}
use Rattle.calculus.specs.Calculus.{holds_character}
use Rattle.calculus.specs.Derivations.{new_mark}
use Rattle.label_table.specs.Longer.{IsLonger}
use Rattle.derivation_branch.specs.Occurring.{holds}
use Rattle.derivation_check.specs.ToldView.{AreThere}
use Rattle.derivation_check.proofs.occurring.add_homes.Given as goal

abbrev pub invariant-loop-home : goal.invariant-loop-home
invariant-loop-home l = record {
  held : (n : ℕ) → (holds l.marks n || list_any (λ k. holds_character (new_mark n) (get_or l.labels k [])) (drop l.home-index l.homes)) ≡ (holds l.initial.marks n || list_any (λ k. holds_character (new_mark n) (get_or l.labels k [])) l.homes);
  kept : IsLonger l.initial.marks l.marks;
  there : AreThere l.labels l.at l.marks l.told;
}
