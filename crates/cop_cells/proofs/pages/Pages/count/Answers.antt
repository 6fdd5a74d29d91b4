use Rattle.std.proofs.Common.{length, ap, arith}
use Rattle.cop_cells.proofs.LayoutLaws.{length-cells_of}
use Rattle.cop_cells.proofs.pages.Pages.count.Goals as goal

pub returns : goal.returns
returns g c =
    let table = c.self.inside.table in
    omega (arith, c.len.ensures, table.ok.0, length-cells_of table.items, ap (λ r. length r) c.self.view_is)
