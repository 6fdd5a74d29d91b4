use Rattle.std.proofs.Common.{◌≡◌, ◌∷◌, map, drop}
use Rattle.std.specs.List.{list_all}
use Rattle.calculus.specs.Tableaux.{is_new_on}
use Rattle.tableau_core.specs.Numbered.LiteralView.{the_literal}
use Rattle.tableau_cert.specs.Judging.{the_path}
use Rattle.tableau_cert.proofs.judging.are_new.Given as goal

abbrev pub invariant-loop-goal : goal.invariant-loop-goal
invariant-loop-goal l = list_all (is_new_on (the_literal l.table l.above ∷ the_path l.table l.path)) (map (the_literal l.table) (drop l.goal-index l.goals)) ≡ list_all (is_new_on (the_literal l.table l.above ∷ the_path l.table l.path)) (map (the_literal l.table) l.goals)
