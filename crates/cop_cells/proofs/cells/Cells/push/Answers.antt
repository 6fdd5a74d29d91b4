use Rattle.std.proofs.Common.{arith, ap, ◌+◌}
use Rattle.cop_cells.proofs.CellLaws.{cell-next, next-page, page-there, put-cells, push-listed}
use Rattle.cop_cells.proofs.cells.Cells.push.Goals as goal

pub put-requires-clause-page : goal.put-requires-clause-page
put-requires-clause-page g c =
    let len = c.self.inside.len in
    let pages = c.self.inside.pages in
    page-there pages len _ (next-page len pages _ (ap (λ r. r.spare) c.self.view_is) c.requires)

pub put-requires-clause-next : goal.put-requires-clause-next
put-requires-clause-next g c =
    let len = c.self.inside.len in
    let pages = c.self.inside.pages in
    let p = next-page len pages _ (ap (λ r. r.spare) c.self.view_is) c.requires in
    cell-next len pages len _ c.self.invariant p (omega arith)

pub invariant_of-self : goal.invariant_of-self
invariant_of-self g c =
    let len = c.self.inside.len in
    let pages = c.self.inside.pages in
    let p = next-page len pages _ (ap (λ r. r.spare) c.self.view_is) c.requires in
    rw c.put.ensures
    (put-cells len (len + 1) pages len _ c.args.item c.self.invariant p (omega arith) (omega arith))

pub returns-clause-list : goal.returns-clause-list
returns-clause-list g c =
    let len = c.self.inside.len in
    let pages = c.self.inside.pages in
    let p = next-page len pages _ (ap (λ r. r.spare) c.self.view_is) c.requires in
    rw (c.put.ensures, ← c.self.view_is) (push-listed len pages _ c.args.item c.self.invariant p)
