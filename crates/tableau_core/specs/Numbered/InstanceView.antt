-- The clause instances of the calculus that those of the program stand for, by the lists of a table.
use Rattle.std.specs.Prelude.{List, map}
use Rattle.calculus.specs.Instances as tree
use Rattle.formula_core.specs.GroundLists.{GroundList, the_values}
use Rattle.tableau_core.specs.Numbered.LiteralView.{the_literal}
use Rattle.tableau_core.specs.declared.instance.ClauseInstance.{ClauseInstance}

abbrev pub the_instance : List GroundList → ClauseInstance → tree.ClauseInstance
the_instance ls i = record { selection = i.selection; values = the_values ls i.values; literals = map (the_literal ls) i.literals }
