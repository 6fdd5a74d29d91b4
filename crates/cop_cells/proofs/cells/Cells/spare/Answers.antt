use Rattle.std.proofs.Common.{◌+◌, length, ap, arith}
use Rattle.cop_cells.proofs.CellLaws.{cells-fit, listed-length}
use Rattle.cop_cells.proofs.cells.Cells.spare.Goals as goal

pub overflow_sub-result : goal.overflow_sub-result
overflow_sub-result g c =
    omega (arith, cells-fit c.self.inside.len c.self.inside.pages c.self.invariant, c.count.ensures)

pub returns-clause-fits : goal.returns-clause-fits
returns-clause-fits g c =
    let len = c.self.inside.len in
    let pages = c.self.inside.pages in
    let e = ap (λ r. length r.list + r.spare) c.self.view_is in
    let h = c.self.invariant.numbered in
    omega (arith, e, listed-length len pages c.self.invariant, cells-fit len pages c.self.invariant)
