use Rattle.std.proofs.Common.{◌≡◌, map, take}
use Rattle.formula_core.specs.GroundLists.{the_value}
use Rattle.tableau_core.proofs.spot.are_same_values.Given as goal

abbrev pub invariant-loop-i : goal.invariant-loop-i
invariant-loop-i l = map (the_value l.table) (take l.i l.a) ≡ map (the_value l.table) (take l.i l.b)
