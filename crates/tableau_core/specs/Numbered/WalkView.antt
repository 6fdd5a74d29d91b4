-- Where a walk through an instance stands, and what is still to be used, by the lists of a table.
use Rattle.std.specs.Prelude.{List, map}
use Rattle.calculus.specs.Instances as tree
use Rattle.formula_core.specs.GroundLists.{GroundList, the_value}
use Rattle.tableau_core.specs.Walks.{Left}
use Rattle.tableau_core.specs.Numbered.LiteralView.{the_literal}
use Rattle.tableau_core.specs.Numbered.SpotView.{the_bound, the_mark_at}
use Rattle.tableau_core.specs.declared.walk.Spot.{Spot}
use Rattle.tableau_core.specs.declared.walk.Rest.{Rest}

abbrev pub the_spot : List GroundList → Spot → tree.Spot
the_spot ls c = record { position = c.position; label = map (the_mark_at ls) c.label.now; taken = map (the_value ls) c.taken.now; env = map (the_bound ls) c.env.now }

abbrev pub the_left : List GroundList → Rest → Left
the_left ls r = record { supply = record { sides = r.sides.now; values = map (the_value ls) r.values.now }; literals = map (the_literal ls) r.literals.now; steps = r.steps }
