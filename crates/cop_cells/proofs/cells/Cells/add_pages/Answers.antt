use Rattle.std.proofs.Common.{◌+◌, length, ap, arith}
use Rattle.cop_cells.proofs.CellLaws.{cells-fit, listed-length, more-cells, more-length, more-listed}
use Rattle.cop_cells.proofs.cells.Cells.add_pages.Goals as goal

pub invariant_of-self-2 : goal.invariant_of-self-2
invariant_of-self-2 g c =
    let len = c.self.inside.len in
    let pages = c.self.inside.pages in
    let e = ap (λ r. length r.list + r.spare) c.self.view_is in
    rw c.in_ok-add.ensures.ok
    (more-cells len _ pages c.self.invariant (omega (
      arith,
      e,
      listed-length len pages c.self.invariant,
      cells-fit len pages c.self.invariant,
      c.requires.fits,
    )))

pub returns-clause-list : goal.returns-clause-list
returns-clause-list g c =
    rw (c.in_ok-add.ensures.ok, ← c.self.view_is)
    (more-listed c.self.inside.len _ c.self.inside.pages)

pub returns-clause-ok : goal.returns-clause-ok
returns-clause-ok g c =
    let len = c.self.inside.len in
    let pages = c.self.inside.pages in
    rw (c.in_ok-add.ensures.ok, ← c.self.view_is)
    (omega (arith, cells-fit len pages c.self.invariant, more-length c.args.count pages))
