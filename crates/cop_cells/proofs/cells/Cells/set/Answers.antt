use Rattle.std.proofs.Common.{ap, arith}
use Rattle.cop_cells.proofs.CellLaws.{cell-within, item-page, listed-within, page-there, put-cells, set-listed}
use Rattle.cop_cells.proofs.cells.Cells.set.Goals as goal

pub put-requires-clause-page : goal.put-requires-clause-page
put-requires-clause-page g c =
    let len = c.self.inside.len in
    let pages = c.self.inside.pages in
    let shown = ap (λ r. r.list) c.self.view_is in
    let h = listed-within len pages _ c.args.place c.self.invariant shown c.requires in
    page-there pages c.args.place _ (item-page len pages c.args.place c.self.invariant h)

pub put-requires-clause-next : goal.put-requires-clause-next
put-requires-clause-next g c =
    let len = c.self.inside.len in
    let pages = c.self.inside.pages in
    let shown = ap (λ r. r.list) c.self.view_is in
    let h = listed-within len pages _ c.args.place c.self.invariant shown c.requires in
    let p = item-page len pages c.args.place c.self.invariant h in
    omega (arith, cell-within len pages c.args.place _ c.self.invariant p h)

pub invariant_of-self : goal.invariant_of-self
invariant_of-self g c =
    let len = c.self.inside.len in
    let pages = c.self.inside.pages in
    let shown = ap (λ r. r.list) c.self.view_is in
    let h = listed-within len pages _ c.args.place c.self.invariant shown c.requires in
    let p = item-page len pages c.args.place c.self.invariant h in
    rw c.put.ensures
    (put-cells len len pages c.args.place _ c.args.item c.self.invariant p (omega (arith, h)) (omega arith))

pub returns-clause-list : goal.returns-clause-list
returns-clause-list g c =
    let len = c.self.inside.len in
    let pages = c.self.inside.pages in
    let shown = ap (λ r. r.list) c.self.view_is in
    let h = listed-within len pages _ c.args.place c.self.invariant shown c.requires in
    let p = item-page len pages c.args.place c.self.invariant h in
    rw (c.put.ensures, ← c.self.view_is)
    (set-listed len pages c.args.place _ c.args.item c.self.invariant p h)
