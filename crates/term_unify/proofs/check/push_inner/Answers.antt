use Rattle.std.proofs.Common.{◌≡◌, ◌+◌, ap, arith, length, map, subst, sym, ◌∙◌}
use Rattle.term_store.specs.RefView.{the_place}
use Rattle.term_unify.proofs.InnerLaws.{AddsUpTo, part-found, up_to-end, up_to-kept, up_to-past}
use Rattle.term_unify.proofs.PairLaws.{part-among, part-inside, parts-count}
use Rattle.term_unify.proofs.StepLaws.{parts-counted}
use Rattle.term_unify.proofs.check.push_inner.Goals as goal
use Rattle.term_unify.proofs.check.push_inner.Goals.{then-count_in-ne0+in_ok-push, else-count_in-ne0}

pub end-part-requires : goal.end-part-requires
end-part-requires c = part-inside c.args.store.now.store c.args.r.0 c.loop-i.i c.part_in.result.0 c.parts_at-parts.result.now c.parts_at-parts.ensures.well c.parts_at-parts.ensures.parts c.part_in.ensures

pub returns-then-part-v-clause-found : goal.returns-then-part-v-clause-found
returns-then-part-v-clause-found c = λ t. part-found c.args.store.now.store c.args.v.0 c.args.r.0 c.loop-i.i c.part_in.result.0 c.end-part.result.place.0 c.requires.end (part-among c.args.store.now.store c.args.r.0 c.loop-i.i c.part_in.result.0 c.parts_at-parts.result.now c.parts_at-parts.ensures.parts c.part_in.ensures) c.end-part.ensures.ends c.if-part-v.true

pub loop-i-preserved : goal.loop-i-preserved
loop-i-preserved c = elim c.if-count_in-ne0.branch [
  | then-count_in-ne0+in_ok-push w ↦
      let kept = up_to-kept c.args.store.now.store c.args.v.0 c.args.r.0 c.loop-i.i c.part_in.result.0 c.end-part.result.place c.loop-i.places.items (map the_place c.args.places.now.items) c.requires.end (part-among c.args.store.now.store c.args.r.0 c.loop-i.i c.part_in.result.0 c.parts_at-parts.result.now c.parts_at-parts.ensures.parts c.part_in.ensures) c.end-part.ensures.ends c.if-part-v.false c.loop-i.invariant in
      subst (λ items. AddsUpTo c.args.store.now.store c.args.v.0 c.args.r.0 (c.loop-i.i + 1) (map the_place c.args.places.now.items) (map the_place items)) (sym (ap (λ places. places.items) w.places-is ∙ w.in_ok-push.ensures.items)) kept
  | else-count_in-ne0 w ↦
      let none = w.if-count_in-ne0.false in
      let past = up_to-past c.args.store.now.store c.args.v.0 c.args.r.0 c.loop-i.i c.part_in.result.0 c.end-part.result.place.0 c.count_in.result (map the_place c.args.places.now.items) (map the_place c.loop-i.places.items) c.requires.variable c.requires.end (part-among c.args.store.now.store c.args.r.0 c.loop-i.i c.part_in.result.0 c.parts_at-parts.result.now c.parts_at-parts.ensures.parts c.part_in.ensures) c.end-part.ensures.ends c.if-part-v.false (parts-counted c.args.store.now.store c.part_in.result.0 c.end-part.result.place.0 c.end-part.result.content c.count_in.result c.end-part.ensures.ends c.end-part.ensures.shows c.count_in.ensures) (omega (arith, none)) c.loop-i.invariant in
      subst (λ items. AddsUpTo c.args.store.now.store c.args.v.0 c.args.r.0 (c.loop-i.i + 1) (map the_place c.args.places.now.items) (map the_place items)) (sym (ap (λ places. places.items) w.places-is)) past
]

pub returns-clause-added : goal.returns-clause-added
returns-clause-added c = λ t.
    let q : c.loop-i.i ≡ (length c.parts_at-parts.result.now) = omega arith in
    up_to-end c.args.store.now.store c.args.v.0 c.args.r.0 c.loop-i.i (length c.parts_at-parts.result.now) (map the_place c.args.places.now.items) (map the_place c.loop-i.places.items) c.requires.end (parts-count c.args.store.now.store c.args.r.0 c.parts_at-parts.result.now c.parts_at-parts.ensures.parts) q c.loop-i.invariant
