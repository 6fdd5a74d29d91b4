use Rattle.std.proofs.Common.{◌≡◌, map, drop}
use Rattle.calculus.specs.Ground.{marks_tree}
use Rattle.calculus.specs.Skolem.{are_admitted_marks}
use Rattle.formula_core.specs.GroundLists.{the_mark, the_marks}
use Rattle.tableau_core.proofs.admission.are_admitted_marks.Given as goal

abbrev pub invariant-loop-mark : goal.invariant-loop-mark
invariant-loop-mark l = are_admitted_marks l.problem (marks_tree (map (the_mark l.table) (drop l.mark-index l.marks))) ≡ are_admitted_marks l.problem (marks_tree (the_marks l.table l.fn.list))
