use Rattle.std.proofs.Common.{◌≡◌, map, drop}
use Rattle.std.specs.List.{list_all}
use Rattle.calculus.specs.Tableaux.{is_shown}
use Rattle.tableau_core.specs.Numbered.LiteralView.{the_literal}
use Rattle.tableau_core.proofs.closed.are_shown.Given as goal

abbrev pub invariant-loop-literal : goal.invariant-loop-literal
invariant-loop-literal l = list_all is_shown (map (the_literal l.table) (drop l.literal-index l.literals)) ≡ list_all is_shown (map (the_literal l.table) l.literals)
