use Rattle.std.proofs.Common.{◌≡◌, map, take}
use Rattle.formula_core.specs.GroundTables.{items_of}
use Rattle.formula_core.proofs.table.GroundTable.copy.Given as goal

abbrev pub invariant-loop-entry : goal.invariant-loop-entry
invariant-loop-entry l = map items_of l.entries.keys ≡ map items_of (take l.entry-index l.given)
