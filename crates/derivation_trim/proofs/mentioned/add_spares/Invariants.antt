use Rattle.std.proofs.Common.{◌≡◌, ◌||◌, ℕ, drop}
use Rattle.calculus.specs.Substitution.{any_leaf}
use Rattle.derivation_branch.specs.Occurring.{holds}
use Rattle.formula_text.specs.Rows.{any_item}
use Rattle.trim_theory.specs.UsedNames.{is_spare}
use Rattle.derivation_trim.proofs.mentioned.add_spares.Given as goal

abbrev pub invariant-loop-item : goal.invariant-loop-item
invariant-loop-item l = (n : ℕ) → (holds l.set n || any_item (is_spare n) (drop l.item-index l.item-items)) ≡ (holds l.initial.set n || any_leaf (is_spare n) l.t)
