use Rattle.std.proofs.Common.{arith, ap, length}
use Rattle.cop_cells.proofs.CellLaws.{cells-fit, listed-length}
use Rattle.cop_cells.proofs.cells.Cells.release.Goals as goal

pub returns-clause-spare : goal.returns-clause-spare
returns-clause-spare g c =
    let len = c.self.inside.len in
    let pages = c.self.inside.pages in
    let e = listed-length len pages c.self.invariant in
    let h = ap (λ r. length r.list) c.self.view_is in
    omega (
      arith,
      cells-fit len pages c.self.invariant,
      e,
      h,
      ap
          (λ r. r.spare) c.self.view_is,
      c.requires,
    )
