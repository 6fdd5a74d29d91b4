use Rattle.std.proofs.Common.{◌<◌, length, sym, ap, ◌∙◌, arith}
use Rattle.std.specs.List.{slice_get}
use Rattle.cop_cells.specs.Places.{somes}
use Rattle.cop_cells.proofs.Fronts.{front-read, front-written}
use Rattle.cop_cells.proofs.pages.Page.get.Goals as goal

pub get-requires : goal.get-requires
get-requires g c =
    let i = c.self.invariant in
    let cs = c.self.inside.places.slots in
    let h : c.args.place < length (somes cs) = omega
    (arith, ap (λ p. length p.cells) c.self.view_is, c.requires) in
    (i.0, front-written cs c.args.place i.2 h)

pub returns : goal.returns
returns g c =
    let i = c.self.invariant in
    let cs = c.self.inside.places.slots in
    let h : c.args.place < length (somes cs) = omega
    (arith, ap (λ p. length p.cells) c.self.view_is, c.requires) in
    sym (ap (λ p. slice_get p.cells c.args.place) c.self.view_is)
    ∙ front-read cs c.args.place i.2 h ∙ c.get.ensures
