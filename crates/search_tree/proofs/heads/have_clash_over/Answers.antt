use Rattle.std.proofs.Common.{◌∙◌, ap, length, map, slice_get, sym, false}
use Rattle.calculus.specs.declared.sort.Sort.TheVariants.{TermSort}
use Rattle.term_store.specs.PatternView.{the_pattern}
use Rattle.term_store.specs.RefView.{the_place, the_places}
use Rattle.search_tree.proofs.HeadLaws.{clash-over, parts-sorted}
use Rattle.search_tree.proofs.SamenessLaws.{place-below}
use Rattle.search_tree.proofs.heads.have_clash_over.Goals as goal

pub is_apart_over-requires-clause-cell : goal.is_apart_over-requires-clause-cell
is_apart_over-requires-clause-cell c = place-below (length c.args.store.now.store.cells) (map the_place c.args.xs.now) c.loop-i.i c.reference_at-x.result.0 c.requires.cells c.reference_at-x.ensures

pub is_apart_over-requires-clause-fits : goal.is_apart_over-requires-clause-fits
is_apart_over-requires-clause-fits c = parts-sorted c.args.store.now.store (the_places c.args.variables) TermSort false c.args.patterns.now c.requires.fits c.loop-i.i (the_pattern c.pattern_at-pattern.result.now) (ap (λ ps. slice_get ps c.loop-i.i) (sym c.items-items.ensures) ∙ c.pattern_at-pattern.ensures)

pub returns-then-is_apart_over : goal.returns-then-is_apart_over
returns-then-is_apart_over c = λ t. clash-over c.args.store.now.store (the_places c.args.variables) (map the_place c.args.xs.now) c.args.patterns.now c.loop-i.i c.reference_at-x.result.0 (the_pattern c.pattern_at-pattern.result.now) c.reference_at-x.ensures (ap (λ ps. slice_get ps c.loop-i.i) (sym c.items-items.ensures) ∙ c.pattern_at-pattern.ensures) (c.is_apart_over.ensures c.if-is_apart_over.true)
