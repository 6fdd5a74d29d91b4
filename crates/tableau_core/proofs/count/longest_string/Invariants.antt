use Rattle.std.proofs.Common.{◌≡◌, map, drop, max}
use Rattle.formula_core.specs.GroundLists.{the_value}
use Rattle.tableau_core.specs.Counted.{longest_string}
use Rattle.tableau_core.proofs.count.longest_string.Given as goal

abbrev pub invariant-loop-value : goal.invariant-loop-value
invariant-loop-value l = max l.longest (longest_string (map (the_value l.table) (drop l.value-index l.values))) ≡ longest_string (map (the_value l.table) l.values)
