use Rattle.std.proofs.Common.{◌≡◌, ℕ, map, drop}
use Rattle.std.specs.List.{list_all}
use Rattle.calculus.specs.Tableaux.{has_at_most}
use Rattle.formula_core.specs.GroundLists.{the_value, the_values}
use Rattle.tableau_core.specs.Walks.{capped}
use Rattle.tableau_cert.proofs.resolving.are_within.Given as goal

abbrev pub invariant-loop-item : goal.invariant-loop-item
invariant-loop-item l = (n : ℕ) → l.most ≡ capped n → list_all (has_at_most n) (map (the_value l.table) (drop l.item-index l.items)) ≡ list_all (has_at_most n) (the_values l.table l.fn.values)
