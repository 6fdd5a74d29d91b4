use Rattle.std.proofs.Common.{◌≡◌, drop}
use Rattle.std.specs.Cmp.Lexicographic.{slice_cmp}
use Rattle.calculus.specs.Choices.{choice_cmp}
use Rattle.tableau_core.specs.ChoiceView.{the_choice}
use Rattle.tableau_core.proofs.choice.compare.Given as goal

abbrev pub invariant-loop-i : goal.invariant-loop-i
invariant-loop-i l = slice_cmp (λ x y. choice_cmp (the_choice x) (the_choice y)) (drop l.i l.a) (drop l.i l.b) ≡ slice_cmp (λ x y. choice_cmp (the_choice x) (the_choice y)) l.a l.b
