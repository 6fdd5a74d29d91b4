-- The list of choices of the program's tree.
use Rattle.std.specs.Prelude.{List, map}
use Rattle.calculus.specs.Choices.{Choice}
use Rattle.search_theory.specs.Matrix.{MatrixClause}
use Rattle.search_theory.specs.States.{name_of}
use Rattle.search_tree.specs.Trees.{the_step}
use Rattle.search_tree.specs.declared.tree.Step.{Step}

abbrev pub names_of : List MatrixClause → List Step → List Choice
names_of m steps = map name_of (map (the_step m) steps)
