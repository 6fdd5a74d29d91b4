use Rattle.std.proofs.Common.{◌≡◌, ◌-◌, ◌<◌, ◌≤◌, [], List, ℕ, inl, inr, arith, get_or, length, min, subst}
use Rattle.plain_laws.proofs.Numbers.{order}
use Rattle.trim_theory.specs.Marking.{counts_of, state, with_undone}
use Rattle.trim_marks.proofs.SkipLaws.{reached_end, reached_next, skipping_more, skipping_stays}
use Rattle.trim_marks.proofs.marking.leave_out_between.Goals as goal

pub loop-place-preserved : goal.loop-place-preserved
loop-place-preserved c =
    let l = c.loop-place in
    let skips = c.args.skips.now.items in
    let ms = l.done.items in
    let ns = c.leave_out.new.done.items in
    let end = c.lesser-end.ensures.first in
    let less = c.loop-place-test.true in
    let within : l.place < c.args.to = omega (arith, end, less) in
    let from : c.args.from ≤ l.place = l.invariant.2 in
    let ahead : l.place < c.next_place-place.result = c.next_place-place.ensures.ahead in
    let further : c.args.from ≤ c.next_place-place.result = omega (arith, from, ahead) in (
      λ saved starts. reached_next saved starts c.args.to (counts_of l.counts.items) (counts_of c.leave_out.new.counts.items) skips ms ns
          (with_undone c.args.from (c.args.to - c.args.from) (state (counts_of c.args.counts.now.items) saved starts c.args.done.now.items))
          c.args.from l.place c.next_place-place.result within from c.leave_out.ensures.counts c.leave_out.ensures.done l.invariant.1 ahead
          (λ i a b. subst (λ (ys : List ℕ). i < get_or ys l.place 0) c.deref.ensures.value (c.next_place-place.ensures.skipped i a b))
          (l.invariant.0 saved starts),
      skipping_stays skips ms ns l.place c.leave_out.ensures.done l.invariant.1,
      further,
    )

pub returns-clause-undone : goal.returns-clause-undone
returns-clause-undone c = λ saved starts.
    let l = c.loop-place in
    let now = l.invariant.1.long in
    let old = c.requires.long in
    let ok = c.args.done.now.ok.0 in
    let count = c.len.ensures in
    let past : min c.args.to (length l.done.items) ≤ l.place = elim (order l.place c.args.to) [
      | inl less ↦ let end = c.lesser-end.ensures.either l.place c.loop-place-test.false less in omega (arith, now, old, ok, count, end)
      | inr gone ↦ omega (arith, gone)
    ] in
    reached_end saved starts c.args.to (counts_of l.counts.items) l.done.items
    (with_undone c.args.from (c.args.to - c.args.from) (state (counts_of c.args.counts.now.items) saved starts c.args.done.now.items))
    c.args.from l.place past (l.invariant.0 saved starts)

pub returns-clause-skips : goal.returns-clause-skips
returns-clause-skips c =
    let l = c.loop-place in
    let now = l.invariant.1.long in
    let old = c.requires.long in
    let ok = c.args.done.now.ok.0 in
    let count = c.len.ensures in
    let end = c.lesser-end.ensures.second in
    let none : List ℕ = [] in
    let within : c.lesser-end.result ≤ length l.done.items = omega (arith, now, old, ok, count, end) in
    let reached : c.lesser-end.result ≤ l.place = c.loop-place-test.false in
    skipping_more c.args.skips.now.items c.skip.new.skips.items l.done.items c.args.from c.lesser-end.result c.skip.ensures within
    (λ i a b. (l.invariant.0 none none).gone i a (omega (arith, b, reached))) l.invariant.1
