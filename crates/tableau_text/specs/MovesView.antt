-- What the lines state, for what the program keeps of them: values by the lists of a table.
use Rattle.std.specs.Prelude.{◌≡◌, List, map}
use Rattle.calculus.specs.TableauText as tree
use Rattle.formula_core.specs.GroundLists.{GroundList, the_values, AreNormalValues}
use Rattle.tableau_text.specs.declared.moves.Chosen.{Chosen}
use Rattle.tableau_text.specs.declared.moves.Move.{Move}
use Rattle.tableau_text.specs.declared.moves.Move.TheVariants.{Reduction, Extension}
use Rattle.tableau_text.specs.declared.moves.Moves.{Moves}

abbrev pub the_chosen : List GroundList → Chosen → tree.Chosen
the_chosen ls c = record { sides = c.selection; values = the_values ls c.values }

abbrev pub the_move : List GroundList → Move → tree.Move
the_move ls (Reduction up) = tree.reduction up
the_move ls (Extension place c) = tree.extension place (the_chosen ls c)

abbrev pub the_moves : Moves → tree.Moves
the_moves x = record { limit = x.limit; start = the_chosen x.table x.start; moves = map (the_move x.table) x.moves.items }

abbrev pub IsNormalMove : List GroundList → Move → Type 0
IsNormalMove ls (Reduction up) = up ≡ up
IsNormalMove ls (Extension place c) = AreNormalValues ls c.values
