use Rattle.std.proofs.Common.{◌<◌, length, get_or, [], ap, sym, ◌∙◌, arith}
use Rattle.std.specs.List.{slice_get}
use Rattle.cop_cells.proofs.LayoutLaws.{cells-at, length-cells_of}
use Rattle.cop_cells.proofs.pages.Pages.get.Goals as goal

pub index-requires : goal.index-requires
index-requires g c =
    let table = c.self.inside.table in
    omega (arith, c.requires.page, table.ok.0, length-cells_of table.items, ap (λ r. length r) c.self.view_is)

pub get-requires : goal.get-requires
get-requires g c =
    let pages = c.self.inside.table.items in
    let h : c.args.page < length pages = omega
    (arith, c.requires.page, length-cells_of pages, ap (λ r. length r) c.self.view_is) in
    omega (
      arith,
      ap (λ r. length r) (cells-at pages c.args.page c.index.result.now h c.index.ensures),
      ap (λ r. length (get_or r c.args.page [])) c.self.view_is,
      c.requires.place,
    )

pub returns : goal.returns
returns g c =
    let pages = c.self.inside.table.items in
    let h : c.args.page < length pages = omega
    (arith, c.requires.page, length-cells_of pages, ap (λ r. length r) c.self.view_is) in
    ap (λ r. slice_get (get_or r c.args.page []) c.args.place) (sym c.self.view_is)
    ∙ ap (λ r. slice_get r c.args.place) (cells-at pages c.args.page c.index.result.now h c.index.ensures)
    ∙ c.get.ensures
