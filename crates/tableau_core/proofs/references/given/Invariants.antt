use Rattle.std.proofs.Common.{◌≡◌, List, map, take}
use Rattle.formula_core.specs.GroundLists.{GroundList, the_mark}
use Rattle.tableau_core.specs.Numbered.SpotView.{the_mark_at}
use Rattle.tableau_core.proofs.references.given.Given as goal

abbrev pub invariant-loop-mark : goal.invariant-loop-mark
invariant-loop-mark l = (ls : List GroundList) → map (the_mark_at ls) l.all.items ≡ map (the_mark ls) (take l.mark-index l.marks)
