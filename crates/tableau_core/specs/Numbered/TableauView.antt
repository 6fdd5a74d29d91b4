-- The tableaux of the calculus that those of the program stand for.
use Rattle.std.specs.Prelude.{map}
use Rattle.calculus.specs.Tableaux as tree
use Rattle.calculus.specs.Lists.{closings_tree}
use Rattle.tableau_core.specs.Numbered.ClosingView.{closing_in}
use Rattle.tableau_core.specs.Numbered.InstanceView.{the_instance}
use Rattle.tableau_core.specs.declared.tableau.Tableau.{Tableau}

abbrev pub the_tableau : Tableau → tree.Tableau
the_tableau t = record { start = the_instance t.table t.start; goals = closings_tree (map (closing_in t.table) t.goals) }
