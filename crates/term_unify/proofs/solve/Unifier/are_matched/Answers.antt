use Rattle.std.proofs.Common.{arith, length, map, refl, subst, sym}
use Rattle.std.proofs.lemmas.List.{length-map}
use Rattle.term_store.specs.PatternView.{the_pattern}
use Rattle.term_store.specs.RefView.{the_place, the_places}
use Rattle.term_store.proofs.ListLaws.{literal-there}
use Rattle.term_unify.specs.Matching.{EachFits}
use Rattle.term_unify.proofs.MatchLaws.{next-matches}
use Rattle.term_unify.proofs.SameLaws.{place-below}
use Rattle.term_unify.proofs.solve.Unifier.are_matched.Goals as goal

pub is_matched-requires-clause-cell : goal.is_matched-requires-clause-cell
is_matched-requires-clause-cell c = place-below (length c.args.store.now.store.cells) (map the_place c.args.cells.now) c.loop-i.i c.cell_at.result.0 c.requires.cells c.cell_at.ensures

pub is_matched-requires-clause-fits : goal.is_matched-requires-clause-fits
is_matched-requires-clause-fits c =
    let items = c.items-items.result.now in
    let item = c.index-items-i.result in
    let n = length-map items the_pattern in
    subst (EachFits c.args.store.now.store (the_places c.args.variables)) (sym c.items-items.ensures) c.requires.fits c.loop-i.i (the_pattern item) (literal-there the_pattern items (map the_pattern items) c.loop-i.i item refl (omega (arith, n)) c.index-items-i.is)

pub loop-i-preserved : goal.loop-i-preserved
loop-i-preserved c = λ σ h.
    let items = c.items-items.result.now in
    let item = c.index-items-i.result in
    let n = length-map items the_pattern in
    let at = literal-there the_pattern items (map the_pattern items) c.loop-i.i item refl (omega (arith, n)) c.index-items-i.is in
    next-matches (the_places c.args.variables) (map the_place c.args.cells.now) (map the_pattern items) c.loop-i.i c.cell_at.result.0 (the_pattern item) σ c.cell_at.ensures at (c.loop-i.invariant σ h) (c.in_ok-is_matched.ensures.matched c.if-not-branch.false σ h)
