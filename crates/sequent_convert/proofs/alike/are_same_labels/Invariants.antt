use Rattle.std.proofs.Common.{◌≡◌, map, take}
use Rattle.formula_core.specs.GroundLists.{the_mark}
use Rattle.sequent_convert.proofs.alike.are_same_labels.Given as goal

abbrev pub invariant-loop-i : goal.invariant-loop-i
invariant-loop-i l = map (the_mark l.table) (take l.i l.a) ≡ map (the_mark l.table) (take l.i l.b)
