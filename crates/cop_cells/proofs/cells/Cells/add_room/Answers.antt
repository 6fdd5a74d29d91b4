use Rattle.std.proofs.Common.{◌+◌, length, ap, arith}
use Rattle.cop_cells.proofs.CellLaws.{all-cells}
use Rattle.cop_cells.proofs.cells.Cells.add_room.Goals as goal

pub add_either-requires-clause-fits : goal.add_either-requires-clause-fits
add_either-requires-clause-fits g c = omega (
  arith,
  ap (λ r. length r.list + r.spare) c.self.view_is,
  all-cells c.self.inside.len c.self.inside.pages c.self.invariant,
  c.count-held.ensures,
  c.most_pages.ensures.1,
)
