use Rattle.std.proofs.Common.{◌≡◌, ◌||◌, ℕ, drop}
use Rattle.calculus.specs.Calculus.{is_eigen}
use Rattle.calculus.specs.Substitution.{any_leaf}
use Rattle.label_table.specs.Longer.{IsLonger}
use Rattle.derivation_branch.specs.Occurring.{holds}
use Rattle.formula_text.specs.Rows.{any_item}
use Rattle.derivation_branch.proofs.leaves.add_each_eigen.Given as goal

abbrev pub invariant-loop-item : goal.invariant-loop-item
invariant-loop-item l = record {
  held : (n : ℕ) → (holds l.set n || any_item (is_eigen n) (drop l.item-index l.item-items)) ≡ (holds l.initial.set n || any_leaf (is_eigen n) l.t);
  kept : IsLonger l.initial.set l.set;
}
