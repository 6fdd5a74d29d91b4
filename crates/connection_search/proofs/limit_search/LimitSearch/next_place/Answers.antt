use Rattle.std.proofs.Common.{None, Some, ◌∙◌, arith, sym}
use Rattle.matrix_build.specs.MatrixView.{the_place}
use Rattle.search_theory.specs.OrderedChoices.{extension_at}
use Rattle.term_store.specs.ClauseView.{the_atom}
use Rattle.search_tree.proofs.MoveLaws.{goal-here}
use Rattle.connection_search.proofs.PassingOver.{leftmost-at, marks-here, passes-left, passes-next, passes-none, same-both}
use Rattle.search_tree.proofs.PointLaws.{goal-row}
use Rattle.connection_search.proofs.limit_search.LimitSearch.next_place.Goals as goal

pub returns-then-has_no_extension-clause-next : goal.returns-then-has_no_extension-clause-next
returns-then-has_no_extension-clause-next c = λ P base p g xs tm at has. passes-none P c.args.self.now.matrix.now c.args.self.now.limit p g xs c.args.left c.args.point.now has (sym c.has_no_extension.ensures ∙ c.if-has_no_extension.true)

pub take_place-requires : goal.take_place-requires
take_place-requires c =
    let (P, base, p, g, xs, tm, at, has) = c.requires in
    let h = c.loop-place.invariant.passes P base p g xs tm at has in
    let row = goal-row c.args.self.now.matrix.now c.args.tree.now.steps.items c.args.tree.now.goals.items c.args.point.now.goal g c.places-places.result.now (the_atom c.atom-atom.result.now) c.other.result (goal-here P c.args.self.now.matrix.now base c.args.self.now.limit p c.args.store.now.store c.args.tree.now.steps.items c.args.tree.now.goals.items c.args.point.now.goal g at) c.atom-atom.ensures c.places-places.ensures c.other.ensures in
    (c.args.self.now.matrix.now, c.args.self.now.limit, g, h.rest, row, h.has)

pub is_passed_place-requires : goal.is_passed_place-requires
is_passed_place-requires c =
    let (P, base, p, g, xs, tm, at, has) = c.requires in
    let h = c.loop-place.invariant.passes P base p g xs tm at has in
    let row = goal-row c.args.self.now.matrix.now c.args.tree.now.steps.items c.args.tree.now.goals.items c.args.point.now.goal g c.places-places.result.now (the_atom c.atom-atom.result.now) c.other.result (goal-here P c.args.self.now.matrix.now base c.args.self.now.limit p c.args.store.now.store c.args.tree.now.steps.items c.args.tree.now.goals.items c.args.point.now.goal g at) c.atom-atom.ensures c.places-places.ensures c.other.ensures in
    (P, base, c.args.self.now.limit, p, g, tm, leftmost-at P c.args.self.now.matrix.now base c.args.self.now.limit p c.args.store.now.store c.args.tree.now.steps.items c.args.tree.now.goals.items c.args.point.now.goal g (the_atom c.atom-atom.result.now) at c.atom-atom.ensures, (c.in-Some.ensures.next c.args.self.now.matrix.now c.args.self.now.limit g h.rest row h.has).0)

pub returns-then-not-is_passed_place-clause-next : goal.returns-then-not-is_passed_place-clause-next
returns-then-not-is_passed_place-clause-next c = λ P base p g xs tm at has.
    let h = c.loop-place.invariant.passes P base p g xs tm at has in
    let row = goal-row c.args.self.now.matrix.now c.args.tree.now.steps.items c.args.tree.now.goals.items c.args.point.now.goal g c.places-places.result.now (the_atom c.atom-atom.result.now) c.other.result (goal-here P c.args.self.now.matrix.now base c.args.self.now.limit p c.args.store.now.store c.args.tree.now.steps.items c.args.tree.now.goals.items c.args.point.now.goal g at) c.atom-atom.ensures c.places-places.ensures c.other.ensures in
    passes-left P c.args.self.now.matrix.now c.args.self.now.limit p g xs c.args.left c.loop-place.point c.take_place.new.self (Some c.in-Some.place) h (c.in-Some.ensures.next c.args.self.now.matrix.now c.args.self.now.limit g h.rest row h.has)

pub loop-place-preserved : goal.loop-place-preserved
loop-place-preserved c = record {
  passes = λ P base p g xs tm at has.
      let h = c.loop-place.invariant.passes P base p g xs tm at has in
      let row = goal-row c.args.self.now.matrix.now c.args.tree.now.steps.items c.args.tree.now.goals.items c.args.point.now.goal g c.places-places.result.now (the_atom c.atom-atom.result.now) c.other.result (goal-here P c.args.self.now.matrix.now base c.args.self.now.limit p c.args.store.now.store c.args.tree.now.steps.items c.args.tree.now.goals.items c.args.point.now.goal g at) c.atom-atom.ensures c.places-places.ensures c.other.ensures in
      let next = c.in-Some.ensures.next c.args.self.now.matrix.now c.args.self.now.limit g h.rest row h.has in
      passes-next P c.args.self.now.matrix.now c.args.self.now.limit p g xs c.args.left c.loop-place.point c.take_place.new.self (extension_at c.args.self.now.matrix.now (the_place c.in-Some.place)) h next.1
      (c.is_passed_place.ensures c.if-not-is_passed_place.false P base c.args.self.now.limit p g c.args.left tm (leftmost-at P c.args.self.now.matrix.now base c.args.self.now.limit p c.args.store.now.store c.args.tree.now.steps.items c.args.tree.now.goals.items c.args.point.now.goal g (the_atom c.atom-atom.result.now) at c.atom-atom.ensures) next.0 (marks-here P c.args.self.now.matrix.now base c.args.self.now.limit p c.args.store.now.store c.args.tree.now.steps.items c.args.tree.now.goals.items c.args.point.now.goal g c.args.left c.marks_to_pass-marks.result at c.marks_to_pass-marks.ensures));
  same = same-both c.args.point.now c.loop-place.point c.take_place.new.self c.loop-place.invariant.same c.take_place.ensures.same;
  above = c.take_place.ensures.way.0 ∙ c.loop-place.invariant.above;
  up = c.take_place.ensures.way.1 ∙ c.loop-place.invariant.up;
  end = c.in-Some.ensures.counted.2 ∙ c.loop-place.invariant.end;
  next = let l = c.loop-place.invariant.next in let e = c.in-Some.ensures.counted.0 in omega (arith, l, e);
}

pub returns-clause-next : goal.returns-clause-next
returns-clause-next c = λ P base p g xs tm at has.
    let h = c.loop-place.invariant.passes P base p g xs tm at has in
    let row = goal-row c.args.self.now.matrix.now c.args.tree.now.steps.items c.args.tree.now.goals.items c.args.point.now.goal g c.places-places.result.now (the_atom c.atom-atom.result.now) c.other.result (goal-here P c.args.self.now.matrix.now base c.args.self.now.limit p c.args.store.now.store c.args.tree.now.steps.items c.args.tree.now.goals.items c.args.point.now.goal g at) c.atom-atom.ensures c.places-places.ensures c.other.ensures in
    passes-left P c.args.self.now.matrix.now c.args.self.now.limit p g xs c.args.left c.loop-place.point c.take_place.new.self None h (c.in_default.ensures.next c.args.self.now.matrix.now c.args.self.now.limit g h.rest row h.has)
