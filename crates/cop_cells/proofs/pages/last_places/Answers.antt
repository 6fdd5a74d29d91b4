use Rattle.std.proofs.Common.{[], ◌∷◌, ◌++◌, ap, sym, ◌∙◌}
use Rattle.cop_cells.specs.Layout.{spots_of}
use Rattle.cop_cells.proofs.LayoutLaws.{spots-append}
use Rattle.cop_cells.proofs.pages.last_places.Goals as goal

pub returns-clause-spots : goal.returns-clause-spots
returns-clause-spots g c =
    let left = c.pop.new.self.items in
    let s = c.into_places.ensures.spot in
    ap spots_of c.in-Some.ensures.items ∙ spots-append left (c.in-Some.page ∷ [])
    ∙ (λ i. spots_of left ++ (sym s.0 i, sym s.1 i) ∷ [])
