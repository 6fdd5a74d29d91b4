use Rattle.std.proofs.Common.{◌≡◌, List, [], map, length}
use Rattle.formula_core.specs.GroundLists.{GroundList}
use Rattle.tableau_cert.specs.Building.{built_on, the_stack}
use Rattle.tableau_cert.specs.Resolving.{the_closer}
use Rattle.tableau_cert.proofs.building.closings_of.Given as goal

-- What the moves that are left build on the stack.

abbrev pub invariant-loop-closer : goal.invariant-loop-closer
invariant-loop-closer l = (ls : List GroundList) → built_on (map (the_closer ls) l.rest.items) (the_stack ls l.stack.items) ≡ built_on (map (the_closer ls) l.fn.closers.items) []

abbrev pub decreases-loop-closer : goal.decreases-loop-closer
decreases-loop-closer l = length l.rest.items
