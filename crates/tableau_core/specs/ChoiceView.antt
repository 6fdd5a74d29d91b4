-- The choices of the calculus that those of the program stand for.
use Rattle.calculus.specs.Choices as tree
use Rattle.tableau_core.specs.declared.choice.Choice.{Choice}
use Rattle.tableau_core.specs.declared.choice.Choice.TheVariants.{Start, Reduce, Extend}

abbrev pub the_choice : Choice → tree.Choice
the_choice (Start s) = tree.start s
the_choice (Reduce up) = tree.reduction up
the_choice (Extend s place) = tree.extension s place
