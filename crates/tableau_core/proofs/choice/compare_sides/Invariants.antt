use Rattle.std.proofs.Common.{◌≡◌, drop}
use Rattle.std.specs.Cmp.Lexicographic.{slice_cmp}
use Rattle.calculus.specs.Choices.{side_cmp}
use Rattle.tableau_core.proofs.choice.compare_sides.Given as goal

abbrev pub invariant-loop-i : goal.invariant-loop-i
invariant-loop-i l = slice_cmp side_cmp (drop l.i l.s) (drop l.i l.t) ≡ slice_cmp side_cmp l.s l.t
