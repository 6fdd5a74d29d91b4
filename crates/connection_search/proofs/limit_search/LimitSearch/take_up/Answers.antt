use Rattle.std.proofs.Common.{◌++◌, ◌∷◌, ◌∙◌, [], Some, arith, refl, sym, ap, subst, inl, inr}
use Rattle.store_theory.proofs.BindingLaws.{KeepsMarks-same}
use Rattle.connection_search.specs.Exploring.{AreAbove, IsCounted, IsExploring}
use Rattle.search_tree.specs.Running.{StandsWhole}
use Rattle.search_tree.specs.declared.tree.Tree.{Tree}
use Rattle.connection_search.proofs.DecidingLaws.{decided-end, decided-on, on-when, solving-counted, visiting-in}
use Rattle.search_tree.proofs.MoveLaws.{goal-here}
use Rattle.connection_search.proofs.SpentLaws.{counted, visit-counted, visit-ended}
use Rattle.connection_search.proofs.VisitLaws.{exploring-moved, goal-of, is-used, later-limit, none-left, not-used, point-above, visit-dead, visit-goal}
use Rattle.connection_search.proofs.limit_search.LimitSearch.take_up.Goals as goal

pub is_regular-requires : goal.is_regular-requires
is_regular-requires c = (c.args.self.now.problem.now, c.args.self.now.matrix.now, c.requires.0, c.args.self.now.limit, c.requires.4.choices, c.requires.4.stands)

pub returns-in_err-is_regular-in-None-clause-counted : goal.returns-in_err-is_regular-in-None-clause-counted
returns-in_err-is_regular-in-None-clause-counted c = λ base later begun space v. counted c.args.self.now.problem.now c.args.self.now.limit (v.choices ∷ v.pending ++ later) begun c.args.ledger.now.used c.args.left.now v.searched

pub returns-then-not-branch-clause-on : goal.returns-then-not-branch-clause-on
returns-then-not-branch-clause-on c = λ base later begun space v. subst (λ (z : Tree). IsExploring c.args.self.now.problem.now c.args.self.now.matrix.now base c.args.self.now.limit c.args.store.now.store z.steps.items z.goals.items c.args.points.now.items later begun c.args.ledger.now.used c.args.left.now) (sym c.in_ok-is_regular-in-None.ensures.tree) (visit-dead c.args.self.now.problem.now c.args.self.now.matrix.now base c.args.self.now.limit c.args.store.now.store c.args.work.now.tree.steps.items c.args.work.now.tree.goals.items c.args.work.now.tree.open c.args.points.now.items later begun c.args.ledger.now.used c.args.left.now v c.in-None.is (c.in_ok-is_regular-in-None.ensures.repeated c.if-not-branch.true c.args.self.now.problem.now c.args.self.now.matrix.now base c.args.self.now.limit v.choices v.stands))

pub returns-then-not-branch-clause-end : goal.returns-then-not-branch-clause-end
returns-then-not-branch-clause-end c = λ base later begun space v. tt

pub returns-then-not-branch-clause-counted : goal.returns-then-not-branch-clause-counted
returns-then-not-branch-clause-counted c = λ base later begun space v. counted c.args.self.now.problem.now c.args.self.now.limit (v.choices ∷ v.pending ++ later) begun c.args.ledger.now.used c.args.left.now v.searched

pub returns-then-not-branch-clause-points : goal.returns-then-not-branch-clause-points
returns-then-not-branch-clause-points c = inl (omega arith, omega arith)

pub returns-then-not-branch-clause-above : goal.returns-then-not-branch-clause-above
returns-then-not-branch-clause-above c = λ k good h. h

pub returns-then-not-branch-clause-marks : goal.returns-then-not-branch-clause-marks
returns-then-not-branch-clause-marks c = KeepsMarks-same c.args.store.now.store

pub returns-then-not-take-clause-end : goal.returns-then-not-take-clause-end
returns-then-not-take-clause-end c = λ base later begun space v. (none-left c.take.result c.args.ledger.now.used c.take.new.self.used c.args.ledger.now.budget c.take.new.self.budget c.take.ensures.taken c.args.ledger.now.in_budget c.if-not-take.true (not-used c.take.result c.args.ledger.now.used c.take.new.self.used c.take.ensures.used c.if-not-take.true) c.take.ensures.budget, visit-ended c.args.self.now.problem.now c.args.self.now.matrix.now base c.args.self.now.limit c.args.store.now.store c.args.work.now.tree.steps.items c.args.work.now.tree.goals.items c.args.work.now.tree.open c.args.points.now.items later begun c.args.ledger.now.used c.take.new.self.used c.args.left.now space v (not-used c.take.result c.args.ledger.now.used c.take.new.self.used c.take.ensures.used c.if-not-take.true))

pub returns-then-not-take-clause-counted : goal.returns-then-not-take-clause-counted
returns-then-not-take-clause-counted c = λ base later begun space v. subst (IsCounted c.args.self.now.problem.now c.args.self.now.limit begun) (sym (not-used c.take.result c.args.ledger.now.used c.take.new.self.used c.take.ensures.used c.if-not-take.true)) (counted c.args.self.now.problem.now c.args.self.now.limit (v.choices ∷ v.pending ++ later) begun c.args.ledger.now.used c.args.left.now v.searched)

pub returns-then-not-take-clause-above : goal.returns-then-not-take-clause-above
returns-then-not-take-clause-above c = λ k good h. h

pub returns-then-not-take-clause-marks : goal.returns-then-not-take-clause-marks
returns-then-not-take-clause-marks c = KeepsMarks-same c.args.store.now.store

pub decide-requires : goal.decide-requires
decide-requires c =
    let (base, later, begun, space, v) = c.requires in
    let new = c.in_ok-is_regular-in-None.ensures.new c.if-not-branch.false c.args.self.now.problem.now c.args.self.now.matrix.now base c.args.self.now.limit v.choices v.stands.0 v.stands.1 v.stands.2 in
    (base, v.choices, space, subst (λ (z : Tree). StandsWhole c.args.self.now.problem.now c.args.self.now.matrix.now base c.args.self.now.limit v.choices c.args.store.now.store z.steps.items z.goals.items z.open) (sym c.in_ok-is_regular-in-None.ensures.tree) (v.stands.0, v.stands.1, v.stands.2, new, c.in-None.is))

pub returns-in_err-decided-in-None-clause-counted : goal.returns-in_err-decided-in-None-clause-counted
returns-in_err-decided-in-None-clause-counted c = λ base later begun space v.
    let w = (visiting-in c.args.self.now.problem.now c.args.self.now.matrix.now base c.args.self.now.limit c.args.store.now.store c.is_regular.new.self.tree c.args.work.now.tree c.args.points.now.items later begun c.args.ledger.now.used c.args.left.now c.in_ok-is_regular-in-None.ensures.tree v) in
    solving-counted c.args.self.now.problem.now c.args.self.now.matrix.now base c.args.self.now.limit c.args.store.now.store c.is_regular.new.self.tree.steps.items c.is_regular.new.self.tree.goals.items c.is_regular.new.self.tree.open c.args.points.now.items later begun c.args.ledger.now.used c.take.new.self.used c.decide.new.ledger.used c.args.left.now space w (ap (λ (z : Tree). z.open) c.in_ok-is_regular-in-None.ensures.tree ∙ c.in-None.is) (is-used c.take.result c.args.ledger.now.used c.take.new.self.used c.take.ensures.used c.if-not-take.false) c.decide.ensures.counted

pub returns-in_err-decided-in-None-clause-marks : goal.returns-in_err-decided-in-None-clause-marks
returns-in_err-decided-in-None-clause-marks c = c.decide.ensures.marks

pub returns-in_ok-decided-in-None-clause-on : goal.returns-in_ok-decided-in-None-clause-on
returns-in_ok-decided-in-None-clause-on c = on-when c.in_ok-decided-in-None.decided _ (λ on base later begun space v.
    let w = (visiting-in c.args.self.now.problem.now c.args.self.now.matrix.now base c.args.self.now.limit c.args.store.now.store c.is_regular.new.self.tree c.args.work.now.tree c.args.points.now.items later begun c.args.ledger.now.used c.args.left.now c.in_ok-is_regular-in-None.ensures.tree v) in
    decided-on c.args.self.now.problem.now c.args.self.now.matrix.now base c.args.self.now.limit c.args.store.now.store c.is_regular.new.self.tree.steps.items c.is_regular.new.self.tree.goals.items c.is_regular.new.self.tree.open c.args.points.now.items later begun c.args.ledger.now.used c.take.new.self.used c.decide.new.ledger.used c.args.left.now space w (ap (λ (z : Tree). z.open) c.in_ok-is_regular-in-None.ensures.tree ∙ c.in-None.is) (is-used c.take.result c.args.ledger.now.used c.take.new.self.used c.take.ensures.used c.if-not-take.false) c.decide.new.ledger.budget c.decide.new.store.store c.in_ok-decided-in-None.decided on c.decide.ensures.counted (c.in_ok-decided-in-None.ensures.decided base w.choices w.stands))

pub returns-in_ok-decided-in-None-clause-end : goal.returns-in_ok-decided-in-None-clause-end
returns-in_ok-decided-in-None-clause-end c = λ base later begun space v.
    let w = (visiting-in c.args.self.now.problem.now c.args.self.now.matrix.now base c.args.self.now.limit c.args.store.now.store c.is_regular.new.self.tree c.args.work.now.tree c.args.points.now.items later begun c.args.ledger.now.used c.args.left.now c.in_ok-is_regular-in-None.ensures.tree v) in
    decided-end c.args.self.now.problem.now c.args.self.now.matrix.now base c.args.self.now.limit c.args.store.now.store c.is_regular.new.self.tree.steps.items c.is_regular.new.self.tree.goals.items c.is_regular.new.self.tree.open c.args.points.now.items later begun c.args.ledger.now.used c.take.new.self.used c.decide.new.ledger.used c.args.left.now space w (ap (λ (z : Tree). z.open) c.in_ok-is_regular-in-None.ensures.tree ∙ c.in-None.is) (is-used c.take.result c.args.ledger.now.used c.take.new.self.used c.take.ensures.used c.if-not-take.false) c.decide.new.ledger.budget c.decide.new.store.store c.in_ok-decided-in-None.decided c.decide.ensures.counted (c.in_ok-decided-in-None.ensures.decided base w.choices w.stands)

pub returns-in_ok-decided-in-None-clause-counted : goal.returns-in_ok-decided-in-None-clause-counted
returns-in_ok-decided-in-None-clause-counted c = λ base later begun space v.
    let w = (visiting-in c.args.self.now.problem.now c.args.self.now.matrix.now base c.args.self.now.limit c.args.store.now.store c.is_regular.new.self.tree c.args.work.now.tree c.args.points.now.items later begun c.args.ledger.now.used c.args.left.now c.in_ok-is_regular-in-None.ensures.tree v) in
    solving-counted c.args.self.now.problem.now c.args.self.now.matrix.now base c.args.self.now.limit c.args.store.now.store c.is_regular.new.self.tree.steps.items c.is_regular.new.self.tree.goals.items c.is_regular.new.self.tree.open c.args.points.now.items later begun c.args.ledger.now.used c.take.new.self.used c.decide.new.ledger.used c.args.left.now space w (ap (λ (z : Tree). z.open) c.in_ok-is_regular-in-None.ensures.tree ∙ c.in-None.is) (is-used c.take.result c.args.ledger.now.used c.take.new.self.used c.take.ensures.used c.if-not-take.false) c.decide.ensures.counted

pub returns-in_ok-decided-in-None-clause-points : goal.returns-in_ok-decided-in-None-clause-points
returns-in_ok-decided-in-None-clause-points c = on-when c.in_ok-decided-in-None.decided _ (λ on.
    let (base, later, begun, space, v) = c.requires in
    let w = visiting-in c.args.self.now.problem.now c.args.self.now.matrix.now base c.args.self.now.limit c.args.store.now.store c.is_regular.new.self.tree c.args.work.now.tree c.args.points.now.items later begun c.args.ledger.now.used c.args.left.now c.in_ok-is_regular-in-None.ensures.tree v in
    let f = (c.decide.ensures.counted.counted w.stands.1.all_goals w.stands.2.tree.goals).from in
    let t = is-used c.take.result c.args.ledger.now.used c.take.new.self.used c.take.ensures.used c.if-not-take.false in
    inl (omega arith, omega (arith, f, t)))

pub returns-in_ok-decided-in-None-clause-above : goal.returns-in_ok-decided-in-None-clause-above
returns-in_ok-decided-in-None-clause-above c = λ k good h. h

pub returns-in_ok-decided-in-None-clause-marks : goal.returns-in_ok-decided-in-None-clause-marks
returns-in_ok-decided-in-None-clause-marks c = c.decide.ensures.marks

pub returns-then-not-take-2-clause-end : goal.returns-then-not-take-2-clause-end
returns-then-not-take-2-clause-end c = λ base later begun space v. (none-left c.take-in-Some.result c.args.ledger.now.used c.take-in-Some.new.self.used c.args.ledger.now.budget c.take-in-Some.new.self.budget c.take-in-Some.ensures.taken c.args.ledger.now.in_budget c.if-not-take-2.true (not-used c.take-in-Some.result c.args.ledger.now.used c.take-in-Some.new.self.used c.take-in-Some.ensures.used c.if-not-take-2.true) c.take-in-Some.ensures.budget, visit-ended c.args.self.now.problem.now c.args.self.now.matrix.now base c.args.self.now.limit c.args.store.now.store c.args.work.now.tree.steps.items c.args.work.now.tree.goals.items c.args.work.now.tree.open c.args.points.now.items later begun c.args.ledger.now.used c.take-in-Some.new.self.used c.args.left.now space v (not-used c.take-in-Some.result c.args.ledger.now.used c.take-in-Some.new.self.used c.take-in-Some.ensures.used c.if-not-take-2.true))

pub returns-then-not-take-2-clause-counted : goal.returns-then-not-take-2-clause-counted
returns-then-not-take-2-clause-counted c = λ base later begun space v. subst (IsCounted c.args.self.now.problem.now c.args.self.now.limit begun) (sym (not-used c.take-in-Some.result c.args.ledger.now.used c.take-in-Some.new.self.used c.take-in-Some.ensures.used c.if-not-take-2.true)) (counted c.args.self.now.problem.now c.args.self.now.limit (v.choices ∷ v.pending ++ later) begun c.args.ledger.now.used c.args.left.now v.searched)

pub returns-then-not-take-2-clause-above : goal.returns-then-not-take-2-clause-above
returns-then-not-take-2-clause-above c = λ k good h. h

pub returns-then-not-take-2-clause-marks : goal.returns-then-not-take-2-clause-marks
returns-then-not-take-2-clause-marks c = KeepsMarks-same c.args.store.now.store

pub new-point-requires : goal.new-point-requires
new-point-requires c =
    let w = goal-of c.args.self.now.problem.now c.args.self.now.matrix.now c.requires.0 c.args.self.now.limit c.requires.4.choices c.args.store.now.store c.args.work.now.tree.steps.items c.args.work.now.tree.goals.items c.args.work.now.tree.open c.in-Some.goal c.requires.4.stands c.in-Some.is in
    (w.0, goal-here c.args.self.now.problem.now c.args.self.now.matrix.now c.requires.0 c.args.self.now.limit c.requires.4.choices c.args.store.now.store c.args.work.now.tree.steps.items c.args.work.now.tree.goals.items c.in-Some.goal w.0 w.1)

pub is_left-requires : goal.is_left-requires
is_left-requires c =
    let w = goal-of c.args.self.now.problem.now c.args.self.now.matrix.now c.requires.0 c.args.self.now.limit c.requires.4.choices c.args.store.now.store c.args.work.now.tree.steps.items c.args.work.now.tree.goals.items c.args.work.now.tree.open c.in-Some.goal c.requires.4.stands c.in-Some.is in
    (c.args.self.now.problem.now, c.requires.0, c.args.self.now.limit, c.requires.4.choices, w.0, c.requires.3.matrix, w.1, refl, c.requires.3.to_200, c.in-Some.is)

pub returns-in_err-left-in-Some-clause-counted : goal.returns-in_err-left-in-Some-clause-counted
returns-in_err-left-in-Some-clause-counted c = λ base later begun space v. visit-counted c.args.self.now.problem.now c.args.self.now.matrix.now base c.args.self.now.limit c.args.store.now.store c.args.work.now.tree.steps.items c.args.work.now.tree.goals.items c.args.work.now.tree.open c.args.points.now.items later begun c.args.ledger.now.used c.take-in-Some.new.self.used c.args.left.now space v (is-used c.take-in-Some.result c.args.ledger.now.used c.take-in-Some.new.self.used c.take-in-Some.ensures.used c.if-not-take-2.false)

pub returns-in_err-push-in-Some-clause-counted : goal.returns-in_err-push-in-Some-clause-counted
returns-in_err-push-in-Some-clause-counted c = λ base later begun space v. visit-counted c.args.self.now.problem.now c.args.self.now.matrix.now base c.args.self.now.limit c.args.store.now.store c.args.work.now.tree.steps.items c.args.work.now.tree.goals.items c.args.work.now.tree.open c.args.points.now.items later begun c.args.ledger.now.used c.take-in-Some.new.self.used c.args.left.now space v (is-used c.take-in-Some.result c.args.ledger.now.used c.take-in-Some.new.self.used c.take-in-Some.ensures.used c.if-not-take-2.false)

pub returns-in_ok-push-in-Some-clause-on : goal.returns-in_ok-push-in-Some-clause-on
returns-in_ok-push-in-Some-clause-on c = λ base later begun space v.
    let w = goal-of c.args.self.now.problem.now c.args.self.now.matrix.now base c.args.self.now.limit v.choices c.args.store.now.store c.args.work.now.tree.steps.items c.args.work.now.tree.goals.items c.args.work.now.tree.open c.in-Some.goal v.stands c.in-Some.is in
    let found = c.in_ok-left-in-Some.ensures.found c.args.self.now.problem.now base c.args.self.now.limit v.choices w.0 space.matrix w.1 refl space.to_200 in
    let point = c.new-point.ensures.point c.args.self.now.problem.now base c.args.self.now.limit v.choices w.0 w.1 refl (later-limit c.args.self.now.limit space.to_200) in
    let here = visit-goal c.args.self.now.problem.now c.args.self.now.matrix.now base c.args.self.now.limit c.args.store.now.store c.args.work.now.tree.steps.items c.args.work.now.tree.goals.items c.args.work.now.tree.open c.args.points.now.items later begun c.args.ledger.now.used c.take-in-Some.new.self.used c.args.left.now c.in_ok-left-in-Some.field-0 c.in-Some.goal w.0 c.new-point.result space v w.1 found point c.new-point.ensures.here c.new-point.ensures.lowest c.in-Some.is (is-used c.take-in-Some.result c.args.ledger.now.used c.take-in-Some.new.self.used c.take-in-Some.ensures.used c.if-not-take-2.false) in
    subst (λ ps. IsExploring c.args.self.now.problem.now c.args.self.now.matrix.now base c.args.self.now.limit c.is_left.new.store.store c.is_left.new.work.tree.steps.items c.is_left.new.work.tree.goals.items ps later begun c.take-in-Some.new.self.used c.in_ok-left-in-Some.field-0) (sym c.in_ok-push-in-Some.ensures.items)
    (exploring-moved c.args.self.now.problem.now c.args.self.now.matrix.now base c.args.self.now.limit c.args.store.now.store c.is_left.new.store.store c.args.work.now.tree.steps.items c.is_left.new.work.tree.steps.items c.args.work.now.tree.goals.items c.is_left.new.work.tree.goals.items (c.args.points.now.items ++ c.new-point.result ∷ []) later begun c.take-in-Some.new.self.used c.in_ok-left-in-Some.field-0 c.in_ok-left-in-Some.ensures.store c.in_ok-left-in-Some.ensures.tree.0 c.in_ok-left-in-Some.ensures.tree.1 here)

pub returns-in_ok-push-in-Some-clause-end : goal.returns-in_ok-push-in-Some-clause-end
returns-in_ok-push-in-Some-clause-end c = λ base later begun space v. tt

pub returns-in_ok-push-in-Some-clause-counted : goal.returns-in_ok-push-in-Some-clause-counted
returns-in_ok-push-in-Some-clause-counted c = λ base later begun space v. visit-counted c.args.self.now.problem.now c.args.self.now.matrix.now base c.args.self.now.limit c.args.store.now.store c.args.work.now.tree.steps.items c.args.work.now.tree.goals.items c.args.work.now.tree.open c.args.points.now.items later begun c.args.ledger.now.used c.take-in-Some.new.self.used c.args.left.now space v (is-used c.take-in-Some.result c.args.ledger.now.used c.take-in-Some.new.self.used c.take-in-Some.ensures.used c.if-not-take-2.false)

pub returns-in_ok-push-in-Some-clause-points : goal.returns-in_ok-push-in-Some-clause-points
returns-in_ok-push-in-Some-clause-points c = inr (c.new-point.result, c.in_ok-push-in-Some.ensures.items, is-used c.take-in-Some.result c.args.ledger.now.used c.take-in-Some.new.self.used c.take-in-Some.ensures.used c.if-not-take-2.false, c.new-point.ensures.light)

pub returns-in_ok-push-in-Some-clause-above : goal.returns-in_ok-push-in-Some-clause-above
returns-in_ok-push-in-Some-clause-above c = λ k good h. subst (AreAbove k) (sym c.in_ok-push-in-Some.ensures.items) (point-above k c.args.store.now.store c.args.work.now.tree.steps.items c.args.work.now.tree.goals.items (Some c.in-Some.goal) c.args.points.now.items c.new-point.result good h c.new-point.ensures.here)
