use Rattle.std.proofs.Common.{◌<◌, length, get_or, set, [], ap, sym, ◌∙◌, arith}
use Rattle.cop_cells.specs.Layout.{cells_of}
use Rattle.cop_cells.specs.Pages.{put_at}
use Rattle.cop_cells.proofs.LayoutLaws.{cells-at, cells-set, length-cells_of, spots-set}
use Rattle.cop_cells.proofs.pages.Pages.put.Goals as goal

pub index_mut-requires : goal.index_mut-requires
index_mut-requires g c =
    let table = c.self.inside.table in
    omega (arith, c.requires.page, table.ok.0, length-cells_of table.items, ap (λ r. length r) c.self.view_is)

pub put-requires-clause-next : goal.put-requires-clause-next
put-requires-clause-next g c =
    let pages = c.self.inside.table.items in
    let h : c.args.page < length pages = omega
    (arith, c.requires.page, length-cells_of pages, ap (λ r. length r) c.self.view_is) in
    omega (
      arith,
      ap (λ r. length r) (cells-at pages c.args.page c.index_mut.result.now h c.index_mut.ensures.value),
      ap (λ r. length (get_or r c.args.page [])) c.self.view_is,
      c.requires.next,
    )

pub invariant_of-self : goal.invariant_of-self
invariant_of-self g c =
    let pages = c.self.inside.table.items in
    spots-set pages c.args.page c.index_mut.result.now c.put.new.self c.index_mut.ensures.value c.put.ensures.spot
    ∙ c.self.invariant

pub returns : goal.returns
returns g c =
    let pages = c.self.inside.table.items in
    let h : c.args.page < length pages = omega
    (arith, c.requires.page, length-cells_of pages, ap (λ r. length r) c.self.view_is) in
    let e = cells-at pages c.args.page c.index_mut.result.now h c.index_mut.ensures.value in
    cells-set pages c.args.page c.put.new.self
    ∙ ap (λ r. set (cells_of pages) c.args.page r)
    (c.put.ensures.cells ∙ ap (λ r. put_at r c.args.place c.args.item) (sym e))
    ∙ ap (λ r. set r c.args.page (put_at (get_or r c.args.page []) c.args.place c.args.item)) c.self.view_is
