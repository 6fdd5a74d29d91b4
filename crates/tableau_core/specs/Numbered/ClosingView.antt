-- The closings that those of the program are, and those of the calculus that they stand for by the lists of a table.
use Rattle.std.specs.Prelude.{List, [], ◌∷◌}
use Rattle.calculus.specs.Tableaux as tree
use Rattle.formula_core.specs.GroundLists.{GroundList}
use Rattle.tableau_core.specs.Numbered.Closings as numbered
use Rattle.tableau_core.specs.Numbered.InstanceView.{the_instance}
use Rattle.tableau_core.specs.declared.closing.Closing.{Closing}
use Rattle.tableau_core.specs.declared.closing.Closing.TheVariants.{Reduce, Extend}

abbrev pub the_closing : Closing → numbered.Closing
the_closing (Reduce up) = numbered.reduce up
the_closing (Extend i place below) = numbered.extend i place (numbered.closings_tree below)

abbrev mutual
  pub closing_in : List GroundList → numbered.Closing → tree.Closing
  closing_in ls (numbered.reduce up) = tree.reduce up
  closing_in ls (numbered.extend i place below) = tree.extend (the_instance ls i) place (closings_in ls below)

  pub closings_in : List GroundList → numbered.Closings → tree.Closings
  closings_in ls numbered.no_closings = tree.no_closings
  closings_in ls (numbered.more_closings c cs) = tree.more_closings (closing_in ls c) (closings_in ls cs)
