use Rattle.std.proofs.Common.{◌≡◌, ◌||◌, ℕ, drop}
use Rattle.calculus.specs.Calculus.{is_eigen}
use Rattle.calculus.specs.Substitution.{any_leaf}
use Rattle.derivation_branch.specs.Occurring.{holds}
use Rattle.formula_text.specs.Rows.{any_item}
use Rattle.derivation_check.specs.NamesTold.{HomeTest, any_found, by_home}
use Rattle.derivation_check.proofs.term_names.found_in.Given as goal

abbrev pub invariant-loop-item : goal.invariant-loop-item
invariant-loop-item l = record {
  eigen : (n : ℕ) → (holds l.names.eigens.keys n || any_item (is_eigen n) (drop l.item-index l.item-items)) ≡ any_leaf (is_eigen n) l.t;
  home : (test : HomeTest) → (any_found test l.names || any_item (by_home l.homes test) (drop l.item-index l.item-items)) ≡ any_leaf (by_home l.homes test) l.t;
}
