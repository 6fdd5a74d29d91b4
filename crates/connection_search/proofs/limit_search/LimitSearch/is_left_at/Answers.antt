use Rattle.std.proofs.Common.{◌+◌, ◌∙◌, ap, arith, refl, subst, sym}
use Rattle.store_theory.specs.Bindings.{KeepsMarks}
use Rattle.store_theory.proofs.BindingLaws.{KeepsMarks-same}
use Rattle.matrix_build.specs.MatrixView.{the_place}
use Rattle.search_theory.specs.OrderedChoices.{extension_at}
use Rattle.connection_search.proofs.LeftLaws.{at-deeper, at-moved, goal-moved, here-moved, tried-all, tried-first, tried-next}
use Rattle.search_tree.proofs.MoveLaws.{goal-here}
use Rattle.connection_search.proofs.limit_search.LimitSearch.is_left_at.Goals as goal

pub new-here-requires : goal.new-here-requires
new-here-requires c = (c.requires.4, goal-here c.requires.0 c.args.self.now.matrix.now c.requires.1 c.requires.2 c.requires.3 c.args.store.now.store c.args.work.now.tree.steps.items c.args.work.now.tree.goals.items c.args.goal c.requires.4 c.requires.6)

pub loop-place-init : goal.loop-place-init
loop-place-init c = record {
  store = refl;
  steps = refl;
  goals = refl;
  first = refl;
  goal = c.new-here.ensures.goal;
  here_goal = c.new-here.ensures.goal;
  here = c.new-here.ensures.here;
  room = (omega arith, omega arith);
  tried = λ P base d p g cm h e l. tried-first P c.args.self.now.matrix.now (d + 1) p g c.new-here.result (c.new-here.ensures.extensions (d + 1) g (goal-here P c.args.self.now.matrix.now base d p c.args.store.now.store c.args.work.now.tree.steps.items c.args.work.now.tree.goals.items c.args.goal g h) (ap (λ k. k + 1) e) (omega (arith, l)));
}

pub next_extension-requires : goal.next_extension-requires
next_extension-requires c = (c.requires.2 + 1, c.requires.4, (c.loop-place.invariant.tried c.requires.0 c.requires.1 c.requires.2 c.requires.3 c.requires.4 c.requires.5 c.requires.6 c.requires.7 c.requires.8).rest, (goal-moved c.args.work.now.tree.steps.items c.loop-place.work.tree.steps.items c.args.work.now.tree.goals.items c.loop-place.work.tree.goals.items c.args.goal c.loop-place.point.goal c.requires.4 c.loop-place.invariant.steps c.loop-place.invariant.goals c.loop-place.invariant.goal (goal-here c.requires.0 c.args.self.now.matrix.now c.requires.1 c.requires.2 c.requires.3 c.args.store.now.store c.args.work.now.tree.steps.items c.args.work.now.tree.goals.items c.args.goal c.requires.4 c.requires.6)), (c.loop-place.invariant.tried c.requires.0 c.requires.1 c.requires.2 c.requires.3 c.requires.4 c.requires.5 c.requires.6 c.requires.7 c.requires.8).has)

pub is_left_by-requires-clause-at : goal.is_left_by-requires-clause-at
is_left_by-requires-clause-at c = (c.requires.0, c.requires.1, c.requires.2, c.requires.3, c.requires.4, c.requires.5, (at-moved c.requires.0 c.args.self.now.matrix.now c.requires.1 (c.requires.2 + 1) c.requires.3 c.args.store.now.store c.loop-place.store.store c.args.work.now.tree.steps.items c.loop-place.work.tree.steps.items c.args.work.now.tree.goals.items c.loop-place.work.tree.goals.items c.args.goal c.new-here.result.goal c.requires.4 c.loop-place.invariant.store c.loop-place.invariant.steps c.loop-place.invariant.goals c.loop-place.invariant.here_goal (at-deeper c.requires.0 c.args.self.now.matrix.now c.requires.1 c.requires.2 c.requires.3 c.args.store.now.store c.args.work.now.tree.steps.items c.args.work.now.tree.goals.items c.args.goal c.requires.4 c.requires.6)), (c.in-Some.ensures.next (c.requires.2 + 1) c.requires.4 (c.loop-place.invariant.tried c.requires.0 c.requires.1 c.requires.2 c.requires.3 c.requires.4 c.requires.5 c.requires.6 c.requires.7 c.requires.8).rest (goal-moved c.args.work.now.tree.steps.items c.loop-place.work.tree.steps.items c.args.work.now.tree.goals.items c.loop-place.work.tree.goals.items c.args.goal c.loop-place.point.goal c.requires.4 c.loop-place.invariant.steps c.loop-place.invariant.goals c.loop-place.invariant.goal (goal-here c.requires.0 c.args.self.now.matrix.now c.requires.1 c.requires.2 c.requires.3 c.args.store.now.store c.args.work.now.tree.steps.items c.args.work.now.tree.goals.items c.args.goal c.requires.4 c.requires.6)) (c.loop-place.invariant.tried c.requires.0 c.requires.1 c.requires.2 c.requires.3 c.requires.4 c.requires.5 c.requires.6 c.requires.7 c.requires.8).has).0)

pub is_left_by-requires-clause-here : goal.is_left_by-requires-clause-here
is_left_by-requires-clause-here c = here-moved c.new-here.result c.args.store.now.store c.loop-place.store.store c.args.work.now.tree.steps.items c.loop-place.work.tree.steps.items c.args.work.now.tree.goals.items c.loop-place.work.tree.goals.items _ c.loop-place.work.tree.open c.loop-place.invariant.store c.loop-place.invariant.steps c.loop-place.invariant.goals (c.loop-place.invariant.first ∙ c.requires.9) c.loop-place.invariant.here

pub returns-then-branch-clause-left : goal.returns-then-branch-clause-left
returns-then-branch-clause-left c = λ t P base d p g cm h e l deep. c.in_ok-is_left_by.ensures.left c.if-branch.true P base d p g cm (at-moved P c.args.self.now.matrix.now base (d + 1) p c.args.store.now.store c.loop-place.store.store c.args.work.now.tree.steps.items c.loop-place.work.tree.steps.items c.args.work.now.tree.goals.items c.loop-place.work.tree.goals.items c.args.goal c.new-here.result.goal g c.loop-place.invariant.store c.loop-place.invariant.steps c.loop-place.invariant.goals c.loop-place.invariant.here_goal (at-deeper P c.args.self.now.matrix.now base d p c.args.store.now.store c.args.work.now.tree.steps.items c.args.work.now.tree.goals.items c.args.goal g h)) (c.in-Some.ensures.next (d + 1) g (c.loop-place.invariant.tried P base d p g cm h e l).rest (goal-moved c.args.work.now.tree.steps.items c.loop-place.work.tree.steps.items c.args.work.now.tree.goals.items c.loop-place.work.tree.goals.items c.args.goal c.loop-place.point.goal g c.loop-place.invariant.steps c.loop-place.invariant.goals c.loop-place.invariant.goal (goal-here P c.args.self.now.matrix.now base d p c.args.store.now.store c.args.work.now.tree.steps.items c.args.work.now.tree.goals.items c.args.goal g h)) (c.loop-place.invariant.tried P base d p g cm h e l).has).0 deep

pub returns-then-branch-clause-store : goal.returns-then-branch-clause-store
returns-then-branch-clause-store c = c.in_ok-is_left_by.ensures.store ∙ c.loop-place.invariant.store

pub returns-then-branch-clause-tree : goal.returns-then-branch-clause-tree
returns-then-branch-clause-tree c = (c.in_ok-is_left_by.ensures.tree.0 ∙ c.loop-place.invariant.steps, c.in_ok-is_left_by.ensures.tree.1 ∙ c.loop-place.invariant.goals, c.in_ok-is_left_by.ensures.tree.2 ∙ c.loop-place.invariant.first)

pub loop-place-preserved : goal.loop-place-preserved
loop-place-preserved c = let a = c.loop-place.invariant.room in let b = c.is_left_by.ensures.room in record {
  store = c.in_ok-is_left_by.ensures.store ∙ c.loop-place.invariant.store;
  steps = c.in_ok-is_left_by.ensures.tree.0 ∙ c.loop-place.invariant.steps;
  goals = c.in_ok-is_left_by.ensures.tree.1 ∙ c.loop-place.invariant.goals;
  first = c.in_ok-is_left_by.ensures.tree.2 ∙ c.loop-place.invariant.first;
  goal = c.in-Some.ensures.same.goal ∙ c.loop-place.invariant.goal;
  here_goal = c.loop-place.invariant.here_goal;
  here = c.loop-place.invariant.here;
  room = (omega (arith, a, b), omega (arith, a, b));
  tried = λ P base d p g cm h e l.
      let next = (c.in-Some.ensures.next (d + 1) g (c.loop-place.invariant.tried P base d p g cm h e l).rest (goal-moved c.args.work.now.tree.steps.items c.loop-place.work.tree.steps.items c.args.work.now.tree.goals.items c.loop-place.work.tree.goals.items c.args.goal c.loop-place.point.goal g c.loop-place.invariant.steps c.loop-place.invariant.goals c.loop-place.invariant.goal (goal-here P c.args.self.now.matrix.now base d p c.args.store.now.store c.args.work.now.tree.steps.items c.args.work.now.tree.goals.items c.args.goal g h)) (c.loop-place.invariant.tried P base d p g cm h e l).has) in
      tried-next P c.args.self.now.matrix.now (d + 1) p g c.loop-place.point c.next_extension.new.self (extension_at c.args.self.now.matrix.now (the_place c.in-Some.place)) next.1.0 (c.loop-place.invariant.tried P base d p g cm h e l) next.1.1 next.1.2 (c.in_ok-is_left_by.ensures.dead c.if-branch.false P base d p g cm (at-moved P c.args.self.now.matrix.now base (d + 1) p c.args.store.now.store c.loop-place.store.store c.args.work.now.tree.steps.items c.loop-place.work.tree.steps.items c.args.work.now.tree.goals.items c.loop-place.work.tree.goals.items c.args.goal c.new-here.result.goal g c.loop-place.invariant.store c.loop-place.invariant.steps c.loop-place.invariant.goals c.loop-place.invariant.here_goal (at-deeper P c.args.self.now.matrix.now base d p c.args.store.now.store c.args.work.now.tree.steps.items c.args.work.now.tree.goals.items c.args.goal g h)) next.0);
}

pub returns-clause-dead : goal.returns-clause-dead
returns-clause-dead c = λ f P base d p g cm h e l. tried-all P c.args.self.now.matrix.now (d + 1) p g c.loop-place.point cm.matrix (c.loop-place.invariant.tried P base d p g cm h e l) (c.in_default.ensures.next (d + 1) g (c.loop-place.invariant.tried P base d p g cm h e l).rest (goal-moved c.args.work.now.tree.steps.items c.loop-place.work.tree.steps.items c.args.work.now.tree.goals.items c.loop-place.work.tree.goals.items c.args.goal c.loop-place.point.goal g c.loop-place.invariant.steps c.loop-place.invariant.goals c.loop-place.invariant.goal (goal-here P c.args.self.now.matrix.now base d p c.args.store.now.store c.args.work.now.tree.steps.items c.args.work.now.tree.goals.items c.args.goal g h)) (c.loop-place.invariant.tried P base d p g cm h e l).has)

pub returns-in_err-is_left_by-clause-marks : goal.returns-in_err-is_left_by-clause-marks
returns-in_err-is_left_by-clause-marks c = subst (λ z. KeepsMarks z c.is_left_by.new.store.store) c.loop-place.invariant.store c.is_left_by.ensures.marks

pub returns-in_err-is_left_by-clause-room : goal.returns-in_err-is_left_by-clause-room
returns-in_err-is_left_by-clause-room c = let a = c.loop-place.invariant.room in let b = c.is_left_by.ensures.room in (omega (arith, a, b), omega (arith, a, b))

pub returns-then-branch-clause-marks : goal.returns-then-branch-clause-marks
returns-then-branch-clause-marks c = subst (λ z. KeepsMarks z c.is_left_by.new.store.store) c.loop-place.invariant.store c.is_left_by.ensures.marks

pub returns-then-branch-clause-room : goal.returns-then-branch-clause-room
returns-then-branch-clause-room c = let a = c.loop-place.invariant.room in let b = c.is_left_by.ensures.room in (omega (arith, a, b), omega (arith, a, b))

pub returns-clause-marks : goal.returns-clause-marks
returns-clause-marks c = subst (KeepsMarks c.args.store.now.store) (sym c.loop-place.invariant.store) (KeepsMarks-same c.args.store.now.store)
