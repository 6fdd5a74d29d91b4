use Rattle.std.proofs.Common.{◌∙◌, IsTrue, ap, arith, length, subst, sym}
use Rattle.std.proofs.lemmas.List.{length-map}
use Rattle.store_theory.specs.Patterns.{pattern_list_size, patterns_tree}
use Rattle.store_theory.specs.Stores.{parts_of}
use Rattle.term_store.specs.Fitting.{parts_fit_in}
use Rattle.term_store.specs.PatternFalls.{size-item}
use Rattle.term_store.specs.PatternView.{the_pattern}
use Rattle.term_store.specs.RefView.{the_places}
use Rattle.term_store.specs.Shown.{the_head}
use Rattle.term_store.proofs.CopyLaws.{fits-at, some-sort}
use Rattle.term_store.proofs.ListLaws.{literal-there}
use Rattle.term_store.proofs.StoreFacts.{shown-end}
use Rattle.term_unify.proofs.MatchBuilt.{built-always, named-built}
use Rattle.term_unify.proofs.MatchLaws.{next-matches}
use Rattle.term_unify.proofs.StepLaws.{ended, parts-counted}
use Rattle.term_unify.proofs.solve.Unifier.+is_matched.Goals as goal

pub is_built_matched-returns : goal.is_built_matched-returns
is_built_matched-returns t c = record {
  matched = λ f.
      let s = c.args.store.now.store in
      let k = c.end-end.result.content in
      let x = c.end-end.result.place.0 in
      let p = the_pattern c.args.pattern.now in
      let w = ended s c.args.cell.0 x (the_head k) c.end-end.ensures.ends (shown-end s c.args.cell.0 x k c.end-end.ensures.ends c.end-end.ensures.shows).0 in
      let n = length-map c.items.result.now the_pattern in
      let e = ap length c.items.ensures in
      let name = sym c.has_name.ensures ∙ c.if-not-has_name.false in
      built-always s (the_places c.args.variables) c.args.cell.0 x c.count_in.result (the_head k) p c.args.parts.now c.end-end.ensures.well w (named-built (the_head k) p name) (record { parts = c.requires.parts; fits = c.requires.fits; values = c.requires.values }) name (parts-counted s c.args.cell.0 x k c.count_in.result c.end-end.ensures.ends c.end-end.ensures.shows c.count_in.ensures) (c.if-count_in-items.false ∙ sym n ∙ e) (c.in_ok-same.ensures.matched f);
}

pub are_parts_matched-is_matched-requires : goal.are_parts_matched-is_matched-requires
are_parts_matched-is_matched-requires t c =
    let s = c.args.store.now.store in
    let vs = the_places c.args.variables in
    let items = c.items-patterns.result.now in
    let small = size-item items c.loop-i.i c.index-patterns-i.result c.index-patterns-i.result (omega arith) c.index-patterns-i.is in
    let same = ap pattern_list_size c.items-patterns.ensures in
    let d = c.decreases in
    let f = subst (λ ps. IsTrue (parts_fit_in s vs c.requires.fits.0 c.requires.fits.1 (patterns_tree ps))) (sym c.items-patterns.ensures) c.requires.fits.2 in
    let one = some-sort s vs c.requires.fits.0 c.requires.fits.1 (the_pattern c.index-patterns-i.result) (fits-at s vs c.requires.fits.0 c.requires.fits.1 items c.loop-i.i c.index-patterns-i.result c.index-patterns-i.result f (omega arith) c.index-patterns-i.is) in
    (omega (arith, small, same, d), (c.part_of-part.ensures.within, (one, c.requires.values)))

pub are_parts_matched-loop-i-preserved : goal.are_parts_matched-loop-i-preserved
are_parts_matched-loop-i-preserved t c = λ d e σ h.
    let items = c.items-patterns.result.now in
    let ps = c.args.parts.now in
    let n = length-map items the_pattern in
    let m = ap length c.items-patterns.ensures in
    let item = c.index-patterns-i.result in
    let at = literal-there the_pattern items ps c.loop-i.i item c.items-patterns.ensures (omega (arith, n, m)) c.index-patterns-i.is in
    next-matches (the_places c.args.variables) (parts_of d) ps c.loop-i.i c.part_of-part.result.0 (the_pattern item) σ (c.part_of-part.ensures.part d e) at (c.loop-i.invariant d e σ h) (c.in_ok-is_matched.ensures.matched c.if-not-branch.false σ h)
