-- What the program answers for a turn stands for.
use Rattle.std.specs.Prelude.{List, map}
use Rattle.conversion_theory.specs.Branches as tree
use Rattle.formula_core.specs.GroundLists.{GroundList}
use Rattle.sequent_calc.specs.StepView.{the_modal, the_term_arg}
use Rattle.sequent_convert.specs.declared.make.Made as program
use Rattle.sequent_convert.specs.declared.make.Made.TheVariants as made
use Rattle.sequent_convert.specs.ByNumber.NodeView.{the_node}

abbrev pub the_made : List GroundList → program.Made → tree.Made
the_made ls made.Rests = tree.rests
the_made ls (made.Grows m u nodes) = tree.grows (the_modal m) (the_term_arg u) (map (the_node ls) nodes.items)
the_made ls (made.Splits m i j) = tree.splits (the_modal m) (the_node ls i) (the_node ls j)
