use Rattle.std.proofs.Common.{ap, sym, ◌∙◌}
use Rattle.std.specs.List.{slice_get}
use Rattle.cop_cells.proofs.CellLaws.{cell-read, cell-within, item-page, listed-within, page-there}
use Rattle.cop_cells.proofs.cells.Cells.get.Goals as goal

pub get-requires-clause-page : goal.get-requires-clause-page
get-requires-clause-page g c =
    let len = c.self.inside.len in
    let pages = c.self.inside.pages in
    let shown = ap (λ r. r.list) c.self.view_is in
    let h = listed-within len pages _ c.args.place c.self.invariant shown c.requires in
    page-there pages c.args.place _ (item-page len pages c.args.place c.self.invariant h)

pub get-requires-clause-place : goal.get-requires-clause-place
get-requires-clause-place g c =
    let len = c.self.inside.len in
    let pages = c.self.inside.pages in
    let shown = ap (λ r. r.list) c.self.view_is in
    let h = listed-within len pages _ c.args.place c.self.invariant shown c.requires in
    let p = item-page len pages c.args.place c.self.invariant h in
    cell-within len pages c.args.place _ c.self.invariant p h

pub returns : goal.returns
returns g c =
    let len = c.self.inside.len in
    let pages = c.self.inside.pages in
    let shown = ap (λ r. r.list) c.self.view_is in
    let h = listed-within len pages _ c.args.place c.self.invariant shown c.requires in
    let p = item-page len pages c.args.place c.self.invariant h in
    ap (λ r. slice_get r.list c.args.place) (sym c.self.view_is)
    ∙ cell-read len pages c.args.place _ c.get.result c.self.invariant p h c.get.ensures
