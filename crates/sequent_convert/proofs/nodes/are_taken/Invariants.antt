use Rattle.std.proofs.Common.{◌≡◌, map, take}
use Rattle.formula_core.specs.GroundLists.{the_value}
use Rattle.sequent_convert.proofs.nodes.are_taken.Given as goal

abbrev pub invariant-loop-i : goal.invariant-loop-i
invariant-loop-i l = map (the_value l.table) (take l.i l.values) ≡ map (the_value l.table) (take l.i l.taken)
