use Rattle.std.proofs.Common.{◌<◌, ◌≤◌, length, sym, ap, subst, ◌∙◌, arith}
use Rattle.cop_cells.specs.Pages.{put_at}
use Rattle.cop_cells.specs.Places.{somes, IsFront}
use Rattle.cop_cells.proofs.Fronts.{front-put, put-front, put-length}
use Rattle.cop_cells.proofs.pages.Page.put.Goals as goal

pub write-requires : goal.write-requires
write-requires g c =
    let i = c.self.invariant in
    let h : c.args.place < length c.self.inside.places.slots = omega (arith, c.requires.fits, i.1) in
    (i.0, h)

pub invariant_of-self : goal.invariant_of-self
invariant_of-self g c =
    let i = c.self.invariant in
    let cs = c.self.inside.places.slots in
    let w = c.write.ensures in
    let l : c.args.place < length cs = omega (arith, c.requires.fits, i.1) in
    let h : c.args.place ≤ length (somes cs) = omega
    (arith, ap (λ p. length p.cells) c.self.view_is, c.requires.next) in (
      i.0 ∙ sym w.2,
      put-length cs _ c.args.place c.args.item 4096 w.3 i.1,
      subst IsFront (sym w.3) (put-front cs c.args.place c.args.item i.2 l h),
    )

pub returns-clause-spot : goal.returns-clause-spot
returns-clause-spot g c =
    let w = c.write.ensures in
    (w.0 ∙ ap (λ p. p.at) c.self.view_is, w.1 ∙ ap (λ p. p.start) c.self.view_is)

pub returns-clause-cells : goal.returns-clause-cells
returns-clause-cells g c =
    let i = c.self.invariant in
    let cs = c.self.inside.places.slots in
    let l : c.args.place < length cs = omega (arith, c.requires.fits, i.1) in
    let h : c.args.place ≤ length (somes cs) = omega
    (arith, ap (λ p. length p.cells) c.self.view_is, c.requires.next) in
    ap somes c.write.ensures.3 ∙ front-put cs c.args.place c.args.item i.2 l h
    ∙ ap (λ p. put_at p.cells c.args.place c.args.item) c.self.view_is
