use Rattle.std.proofs.Common.{◌≡◌, ◌≤◌, [], get_or, length}
use Rattle.derivation_branch.specs.Putting.{value_at}
use Rattle.derivation_branch.proofs.substitution.Substitutions.binding_of.Given as goal

abbrev pub invariant-loop-at : goal.invariant-loop-at
invariant-loop-at l = record {
  within : l.at ≤ length l.self-inside.bindings.items;
  same : value_at (get_or l.self l.at []) l.left ≡ value_at (get_or l.self l.place []) l.variable;
}

abbrev pub decreases-loop-at : goal.decreases-loop-at
decreases-loop-at l = l.left
