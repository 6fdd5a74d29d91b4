use Rattle.std.proofs.Common.{◌≡◌, map, drop}
use Rattle.calculus.specs.Tableaux.{is_new_on}
use Rattle.tableau_core.specs.Numbered.LiteralView.{the_literal}
use Rattle.tableau_core.proofs.atom.is_new_on.Given as goal

abbrev pub invariant-loop-other : goal.invariant-loop-other
invariant-loop-other l = is_new_on (map (the_literal l.table) (drop l.other-index l.path)) ((the_literal l.table) l.goal) ≡ is_new_on (map (the_literal l.table) l.path) ((the_literal l.table) l.goal)
