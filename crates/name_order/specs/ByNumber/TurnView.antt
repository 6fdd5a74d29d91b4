-- The turns of the calculus that those of the program stand for, by the lists of a table.
use Rattle.std.specs.Prelude.{List}
use Rattle.calculus.specs.Instances as tree
use Rattle.formula_core.specs.GroundLists.{GroundList, the_values, AreNormalValues}
use Rattle.name_order.specs.declared.turn.Turn.{Turn}

abbrev pub the_turn : List GroundList → Turn → tree.Turn
the_turn ls t = record { position = t.position.0; values = the_values ls t.values }

-- its values are named by the one number of their list
abbrev pub IsNormalTurn : List GroundList → Turn → Type 0
IsNormalTurn ls t = AreNormalValues ls t.values
