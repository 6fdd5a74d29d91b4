use Rattle.std.proofs.Common.{◌≡◌}
use Rattle.cop_cells.specs.Layout.{laid, spots_of}
use Rattle.cop_cells.proofs.pages.Pages.drop.Given as goal

abbrev pub invariant-loop-block : goal.invariant-loop-block
invariant-loop-block g l = spots_of l.table.items ≡ laid l.blocks.items

abbrev pub decreases-loop-block : goal.decreases-loop-block
decreases-loop-block g l = goal.left-loop-block g l
