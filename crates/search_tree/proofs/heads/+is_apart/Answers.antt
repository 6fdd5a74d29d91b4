use Rattle.std.proofs.Common.{◌∙◌, ap, arith, slice_get, subst, sym}
use Rattle.store_theory.specs.Patterns.{pattern_size}
use Rattle.store_theory.proofs.BindingLaws.{ends-there}
use Rattle.term_store.specs.PatternView.{the_pattern}
use Rattle.term_store.specs.Shown.{the_head}
use Rattle.term_store.proofs.StoreFacts.{shown-end}
use Rattle.term_unify.proofs.PairLaws.{part-among, part-inside}
use Rattle.search_tree.specs.Heads.{IsApart}
use Rattle.search_tree.proofs.HeadLaws.{apart-by_names, apart-by_parts, size-there}
use Rattle.search_tree.proofs.heads.+is_apart.Goals as goal

pub have_parts_apart-is_apart-requires : goal.have_parts_apart-is_apart-requires
have_parts_apart-is_apart-requires t c =
    let at = ap (λ ps. slice_get ps c.loop-i.i) (sym c.items-items.ensures) ∙ c.pattern_at-item.ensures in
    let small = size-there c.args.patterns.now c.loop-i.i (the_pattern c.pattern_at-item.result.now) at in
    let d = c.decreases in (
      omega (arith, small, d),
      part-inside c.args.store.now.store c.args.end.0 c.loop-i.i c.part_at-part.result.0 c.parts_at-parts.result.now c.parts_at-parts.ensures.well c.parts_at-parts.ensures.parts c.part_at-part.ensures,
    )

pub have_parts_apart-returns-then-is_apart : goal.have_parts_apart-returns-then-is_apart
have_parts_apart-returns-then-is_apart t c = λ e. (
  c.loop-i.i,
  c.part_at-part.result.0,
  the_pattern c.pattern_at-item.result.now,
  part-among c.args.store.now.store c.args.end.0 c.loop-i.i c.part_at-part.result.0 c.parts_at-parts.result.now c.parts_at-parts.ensures.parts c.part_at-part.ensures,
  ap (λ ps. slice_get ps c.loop-i.i) (sym c.items-items.ensures) ∙ c.pattern_at-item.ensures,
  c.is_apart.ensures c.if-is_apart.true,
)

pub is_apart-returns-then-names_differ : goal.is_apart-returns-then-names_differ
is_apart-returns-then-names_differ t c = λ e. apart-by_names c.args.store.now.store c.args.r.0 c.end-at.result.place.0 (the_head c.end-at.result.content) (the_pattern c.args.pattern.now) c.end-at.ensures.ends (shown-end c.args.store.now.store c.args.r.0 c.end-at.result.place.0 c.end-at.result.content c.end-at.ensures.ends c.end-at.ensures.shows).0 (sym c.names_differ.ensures ∙ c.if-names_differ.true)

pub is_apart-have_parts_apart-requires : goal.is_apart-have_parts_apart-requires
is_apart-have_parts_apart-requires t c =
    let e = ap (λ p. pattern_size (the_pattern p)) c.in-Fun.is in
    let d = c.decreases in
    (omega (arith, e, d), ends-there c.args.store.now.store c.args.r.0 c.end-at.result.place.0 c.end-at.ensures.ends)

pub is_apart-returns-in-Fun : goal.is_apart-returns-in-Fun
is_apart-returns-in-Fun t c = λ e.
    subst (λ p. IsApart c.args.store.now.store c.args.r.0 (the_pattern p)) (sym c.in-Fun.is)
    (apart-by_parts c.args.store.now.store c.args.r.0 c.end-at.result.place.0 c.in-Fun._f.0 c.in-Fun.parts c.end-at.ensures.ends (c.have_parts_apart.ensures e))
