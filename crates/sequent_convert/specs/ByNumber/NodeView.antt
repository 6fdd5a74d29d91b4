-- The items of the calculus that nodes of the program stand for, by the lists of a table.
use Rattle.std.specs.Prelude.{List}
use Rattle.conversion_theory.specs.Branches.{Item}
use Rattle.formula_core.specs.FormulaView.{the_formula}
use Rattle.formula_core.specs.GroundLists.{GroundList}
use Rattle.sequent_convert.specs.declared.node.Node as program
use Rattle.sequent_convert.specs.ByNumber.SpotView.{the_spot}

abbrev pub the_node : List GroundList → program.Node → Item
the_node ls n = record { spot = the_spot ls n.spot; sign = n.part.sign; formula = the_formula n.part.formula.now; past = n.past }
