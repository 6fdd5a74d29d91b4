use Rattle.std.proofs.Common.{◌≡◌, map, take}
use Rattle.formula_core.specs.GroundLists.{the_mark}
use Rattle.tableau_core.specs.Numbered.SpotView.{the_mark_at}
use Rattle.tableau_core.proofs.spot.is_label.Given as goal

abbrev pub invariant-loop-i : goal.invariant-loop-i
invariant-loop-i l = map (the_mark_at l.table) (take l.i l.label) ≡ map (the_mark l.table) (take l.i l.marks)
