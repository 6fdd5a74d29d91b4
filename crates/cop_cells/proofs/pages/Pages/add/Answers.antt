use Rattle.std.proofs.Common.{[], ◌∷◌, ◌++◌, replicate, ap, sym, ◌∙◌}
use Rattle.cop_cells.specs.Layout.{blank_pages, cells_of, laid, spots_of}
use Rattle.cop_cells.proofs.LayoutLaws.{cells-more, spots-more}
use Rattle.cop_cells.proofs.pages.Pages.add.Goals as goal

pub invariant_of-self-2 : goal.invariant_of-self-2
invariant_of-self-2 g c =
    let pages = c.self.inside.table.items in
    let blocks = c.self.inside.blocks.items in
    let at = c.in_ok-base.deed.at in
    let n = c.args.count in
    let t = c.in_ok-base.ensures in
    ap spots_of (c.push_pages.ensures ∙ (λ i. c.reserve.ensures.items i ++ blank_pages ((t.0 ∙ sym t.4) i) n))
    ∙ spots-more pages blocks at n c.self.invariant
    ∙ ap laid (sym (c.push_reserved.ensures.items ∙ ap (λ bs. bs ++ (at, n) ∷ []) c.reserve-2.ensures.items))

pub returns-clause-ok : goal.returns-clause-ok
returns-clause-ok g c =
    let pages = c.self.inside.table.items in
    let at = c.in_ok-base.deed.at in
    let n = c.args.count in
    let t = c.in_ok-base.ensures in
    ap cells_of (c.push_pages.ensures ∙ (λ i. c.reserve.ensures.items i ++ blank_pages ((t.0 ∙ sym t.4) i) n))
    ∙ cells-more pages at n ∙ ap (λ r. r ++ replicate n []) c.self.view_is
