use Rattle.std.proofs.Common.{◌≤◌, ◌++◌, ◌∷◌, ◌∙◌, [], Some, arith, refl, sym, ap, subst, take}
use Rattle.search_theory.specs.Cutting.{pending_on}
use Rattle.connection_search.specs.Cutting.{IsCountedAt, IsCutExploring}
use Rattle.connection_search.specs.Deciding.{IsDecided}
use Rattle.search_tree.specs.Weights.{work_left}
use Rattle.connection_search.proofs.CuttingLaws.{cut-closed, cut-counted, cut-ended, cut-exploring-moved, cut-falls, cut-undecided, cut-visit-goal, none-falls, passing-counted, passing-ended, passing-one}
use Rattle.connection_search.proofs.FoundLaws.{sound-new}
use Rattle.search_tree.proofs.MoveLaws.{goal-here, goal-within}
use Rattle.search_tree.proofs.Places.{read-there}
use Rattle.search_tree.proofs.PointLaws.{depth-of}
use Rattle.connection_search.proofs.SpentLaws.{stands-live}
use Rattle.connection_search.proofs.VisitLaws.{goal-of, is-used, later-limit, none-left, not-used}
use Rattle.connection_search.proofs.limit_search.LimitSearch.visit_cut.Goals as goal

pub returns-then-not-take-clause-end : goal.returns-then-not-take-clause-end
returns-then-not-take-clause-end c = λ base sides later begun space v.
    let n = not-used c.take.result c.args.ledger.now.used c.take.new.self.used c.take.ensures.used c.if-not-take.true in
    passing-ended c.args.self.now.problem.now c.args.self.now.limit v.choices (pending_on v.levels ++ later) begun c.args.ledger.now.used c.take.new.self.used c.take.new.self.budget v.passing space.from_one (stands-live c.args.self.now.problem.now c.args.self.now.matrix.now base c.args.self.now.limit v.choices c.args.store.now.store c.args.work.now.tree.steps.items c.args.work.now.tree.goals.items c.args.work.now.tree.open v.stands) n
    (none-left c.take.result c.args.ledger.now.used c.take.new.self.used c.args.ledger.now.budget c.take.new.self.budget c.take.ensures.taken c.args.ledger.now.in_budget c.if-not-take.true n c.take.ensures.budget)

pub returns-then-not-take-clause-counted : goal.returns-then-not-take-clause-counted
returns-then-not-take-clause-counted c = λ base sides later begun space v. subst (IsCountedAt c.args.self.now.problem.now c.args.self.now.limit begun) (sym (not-used c.take.result c.args.ledger.now.used c.take.new.self.used c.take.ensures.used c.if-not-take.true)) (passing-counted c.args.self.now.problem.now c.args.self.now.limit (v.choices ∷ pending_on v.levels ++ later) begun c.args.ledger.now.used v.passing)

pub decide-requires : goal.decide-requires
decide-requires c = let (base, sides, later, begun, space, v) = c.requires in (base, v.choices, space, sound-new c.args.self.now.problem.now c.args.self.now.matrix.now base c.args.self.now.limit v.choices c.args.store.now.store c.args.work.now.tree.steps.items c.args.work.now.tree.goals.items c.args.work.now.tree.open v.sound c.in-None.is v.stands)

pub returns-in_err-decided-in-None-clause-counted : goal.returns-in_err-decided-in-None-clause-counted
returns-in_err-decided-in-None-clause-counted c = λ base sides later begun space v. cut-counted c.args.self.now.problem.now c.args.self.now.matrix.now base c.args.self.now.limit sides c.args.store.now.store c.args.work.now.tree.steps.items c.args.work.now.tree.goals.items c.args.work.now.tree.open c.args.points.now.items later begun c.args.ledger.now.used c.take.new.self.used c.decide.new.ledger.used c.args.left.now space v c.in-None.is (is-used c.take.result c.args.ledger.now.used c.take.new.self.used c.take.ensures.used c.if-not-take.false) c.decide.ensures.counted

pub returns-in-On-clause-on : goal.returns-in-On-clause-on
returns-in-On-clause-on c = λ base sides later begun space v.
    let (none, same) = subst (IsDecided c.args.self.now.problem.now c.args.self.now.matrix.now c.args.self.now.limit v.choices c.args.store.now.store c.args.work.now.tree.steps.items c.args.work.now.tree.goals.items c.take.new.self.used c.decide.new.ledger.used c.decide.new.ledger.budget c.decide.new.store.store) c.in-On.is (c.in_ok-decided-in-None.ensures.decided base v.choices v.stands) in
    subst (λ ps. IsCutExploring c.args.self.now.problem.now c.args.self.now.matrix.now base c.args.self.now.limit sides c.decide.new.store.store c.args.work.now.tree.steps.items c.args.work.now.tree.goals.items ps later begun c.decide.new.ledger.used c.args.left.now) (sym c.truncate.ensures.items)
    (cut-undecided c.args.self.now.problem.now c.args.self.now.matrix.now base c.args.self.now.limit sides c.args.store.now.store c.args.work.now.tree.steps.items c.args.work.now.tree.goals.items c.args.work.now.tree.open c.args.points.now.items later begun c.args.ledger.now.used c.take.new.self.used c.decide.new.ledger.used c.args.left.now space v c.in-None.is (is-used c.take.result c.args.ledger.now.used c.take.new.self.used c.take.ensures.used c.if-not-take.false) c.decide.new.store.store c.decide.ensures.counted none)

pub returns-in-On-clause-counted : goal.returns-in-On-clause-counted
returns-in-On-clause-counted c = λ base sides later begun space v. cut-counted c.args.self.now.problem.now c.args.self.now.matrix.now base c.args.self.now.limit sides c.args.store.now.store c.args.work.now.tree.steps.items c.args.work.now.tree.goals.items c.args.work.now.tree.open c.args.points.now.items later begun c.args.ledger.now.used c.take.new.self.used c.decide.new.ledger.used c.args.left.now space v c.in-None.is (is-used c.take.result c.args.ledger.now.used c.take.new.self.used c.take.ensures.used c.if-not-take.false) c.decide.ensures.counted

pub returns-in-On-clause-falls : goal.returns-in-On-clause-falls
returns-in-On-clause-falls c =
    let (base, sides, later, begun, space, v) = c.requires in
    let f = (c.decide.ensures.counted.counted v.stands.1.all_goals v.stands.2.tree.goals).from in
    let t = is-used c.take.result c.args.ledger.now.used c.take.new.self.used c.take.ensures.used c.if-not-take.false in
    none-falls c.args.ledger.now.budget c.args.ledger.now.used c.decide.new.ledger.used c.truncate.new.self.items c.args.points.now.items c.truncate.ensures.items (omega (arith, f, t))

pub returns-in-Steps-clause-end : goal.returns-in-Steps-clause-end
returns-in-Steps-clause-end c = λ base sides later begun space v.
    let ended = subst (IsDecided c.args.self.now.problem.now c.args.self.now.matrix.now c.args.self.now.limit v.choices c.args.store.now.store c.args.work.now.tree.steps.items c.args.work.now.tree.goals.items c.take.new.self.used c.decide.new.ledger.used c.decide.new.ledger.budget c.decide.new.store.store) c.in-Steps.is (c.in_ok-decided-in-None.ensures.decided base v.choices v.stands) in
    cut-ended c.args.self.now.problem.now c.args.self.now.matrix.now base c.args.self.now.limit sides c.args.store.now.store c.args.work.now.tree.steps.items c.args.work.now.tree.goals.items c.args.work.now.tree.open c.args.points.now.items later begun c.args.ledger.now.used c.take.new.self.used c.decide.new.ledger.used c.args.left.now space v c.in-None.is (is-used c.take.result c.args.ledger.now.used c.take.new.self.used c.take.ensures.used c.if-not-take.false) c.decide.new.ledger.budget c.decide.ensures.counted ended

pub returns-in-Steps-clause-counted : goal.returns-in-Steps-clause-counted
returns-in-Steps-clause-counted c = λ base sides later begun space v. cut-counted c.args.self.now.problem.now c.args.self.now.matrix.now base c.args.self.now.limit sides c.args.store.now.store c.args.work.now.tree.steps.items c.args.work.now.tree.goals.items c.args.work.now.tree.open c.args.points.now.items later begun c.args.ledger.now.used c.take.new.self.used c.decide.new.ledger.used c.args.left.now space v c.in-None.is (is-used c.take.result c.args.ledger.now.used c.take.new.self.used c.take.ensures.used c.if-not-take.false) c.decide.ensures.counted

pub returns-in-Closed-clause-end : goal.returns-in-Closed-clause-end
returns-in-Closed-clause-end c = λ base sides later begun space v.
    let (closed, reached) = subst (IsDecided c.args.self.now.problem.now c.args.self.now.matrix.now c.args.self.now.limit v.choices c.args.store.now.store c.args.work.now.tree.steps.items c.args.work.now.tree.goals.items c.take.new.self.used c.decide.new.ledger.used c.decide.new.ledger.budget c.decide.new.store.store) c.in-Closed.is (c.in_ok-decided-in-None.ensures.decided base v.choices v.stands) in
    (v.choices, cut-closed c.args.self.now.problem.now c.args.self.now.matrix.now base c.args.self.now.limit sides c.args.store.now.store c.args.work.now.tree.steps.items c.args.work.now.tree.goals.items c.args.work.now.tree.open c.args.points.now.items later begun c.args.ledger.now.used c.args.left.now c.in-Closed.tableau v c.in-None.is closed reached)

pub returns-in-Closed-clause-counted : goal.returns-in-Closed-clause-counted
returns-in-Closed-clause-counted c = λ base sides later begun space v. cut-counted c.args.self.now.problem.now c.args.self.now.matrix.now base c.args.self.now.limit sides c.args.store.now.store c.args.work.now.tree.steps.items c.args.work.now.tree.goals.items c.args.work.now.tree.open c.args.points.now.items later begun c.args.ledger.now.used c.take.new.self.used c.decide.new.ledger.used c.args.left.now space v c.in-None.is (is-used c.take.result c.args.ledger.now.used c.take.new.self.used c.take.ensures.used c.if-not-take.false) c.decide.ensures.counted

pub index-requires : goal.index-requires
index-requires c =
    let (base, sides, later, begun, space, v) = c.requires in
    let w = goal-of c.args.self.now.problem.now c.args.self.now.matrix.now base c.args.self.now.limit v.choices c.args.store.now.store c.args.work.now.tree.steps.items c.args.work.now.tree.goals.items c.args.work.now.tree.open c.in-Some.goal v.stands c.in-Some.is in
    let l = goal-within c.args.self.now.problem.now c.args.self.now.matrix.now base c.args.self.now.limit v.choices c.args.store.now.store c.args.work.now.tree.steps.items c.args.work.now.tree.goals.items c.in-Some.goal w.0 w.1 in
    let n = c.args.work.now.tree.goals.ok.0 in
    omega (arith, l, n)

pub new-point-requires : goal.new-point-requires
new-point-requires c =
    let (base, sides, later, begun, space, v) = c.requires in
    let w = goal-of c.args.self.now.problem.now c.args.self.now.matrix.now base c.args.self.now.limit v.choices c.args.store.now.store c.args.work.now.tree.steps.items c.args.work.now.tree.goals.items c.args.work.now.tree.open c.in-Some.goal v.stands c.in-Some.is in
    (w.0, goal-here c.args.self.now.problem.now c.args.self.now.matrix.now base c.args.self.now.limit v.choices c.args.store.now.store c.args.work.now.tree.steps.items c.args.work.now.tree.goals.items c.in-Some.goal w.0 w.1)

pub is_left-requires : goal.is_left-requires
is_left-requires c =
    let (base, sides, later, begun, space, v) = c.requires in
    let w = goal-of c.args.self.now.problem.now c.args.self.now.matrix.now base c.args.self.now.limit v.choices c.args.store.now.store c.args.work.now.tree.steps.items c.args.work.now.tree.goals.items c.args.work.now.tree.open c.in-Some.goal v.stands c.in-Some.is in
    (c.args.self.now.problem.now, base, c.args.self.now.limit, v.choices, w.0, space.matrix, w.1, refl, space.to_200, c.in-Some.is)

pub returns-in_err-left-in-Some-clause-counted : goal.returns-in_err-left-in-Some-clause-counted
returns-in_err-left-in-Some-clause-counted c = λ base sides later begun space v. passing-one c.args.self.now.problem.now c.args.self.now.limit v.choices (pending_on v.levels ++ later) begun c.args.ledger.now.used c.take.new.self.used v.passing space.from_one (stands-live c.args.self.now.problem.now c.args.self.now.matrix.now base c.args.self.now.limit v.choices c.args.store.now.store c.args.work.now.tree.steps.items c.args.work.now.tree.goals.items c.args.work.now.tree.open v.stands) (is-used c.take.result c.args.ledger.now.used c.take.new.self.used c.take.ensures.used c.if-not-take.false)

pub returns-in_err-push-in-Some-clause-counted : goal.returns-in_err-push-in-Some-clause-counted
returns-in_err-push-in-Some-clause-counted c = λ base sides later begun space v. passing-one c.args.self.now.problem.now c.args.self.now.limit v.choices (pending_on v.levels ++ later) begun c.args.ledger.now.used c.take.new.self.used v.passing space.from_one (stands-live c.args.self.now.problem.now c.args.self.now.matrix.now base c.args.self.now.limit v.choices c.args.store.now.store c.args.work.now.tree.steps.items c.args.work.now.tree.goals.items c.args.work.now.tree.open v.stands) (is-used c.take.result c.args.ledger.now.used c.take.new.self.used c.take.ensures.used c.if-not-take.false)

pub returns-in_ok-push-in-Some-clause-on : goal.returns-in_ok-push-in-Some-clause-on
returns-in_ok-push-in-Some-clause-on c = λ base sides later begun space v.
    let w = goal-of c.args.self.now.problem.now c.args.self.now.matrix.now base c.args.self.now.limit v.choices c.args.store.now.store c.args.work.now.tree.steps.items c.args.work.now.tree.goals.items c.args.work.now.tree.open c.in-Some.goal v.stands c.in-Some.is in
    let point = c.new-point.ensures.point c.args.self.now.problem.now base c.args.self.now.limit v.choices w.0 w.1 refl (later-limit c.args.self.now.limit space.to_200) in
    let at = goal-here c.args.self.now.problem.now c.args.self.now.matrix.now base c.args.self.now.limit v.choices c.args.store.now.store c.args.work.now.tree.steps.items c.args.work.now.tree.goals.items c.in-Some.goal w.0 w.1 in
    let deep = depth-of c.args.work.now.tree.steps.items c.args.work.now.tree.goals.items c.in-Some.goal w.0 c.index.result.now at (read-there c.args.work.now.tree.goals.items c.in-Some.goal c.index.result.now at.goal at.stands c.index.ensures) in
    let found = c.in_ok-left-in-Some.ensures.found c.args.self.now.problem.now base c.args.self.now.limit v.choices w.0 space.matrix w.1 refl space.to_200 in
    let here = cut-visit-goal c.args.self.now.problem.now c.args.self.now.matrix.now base c.args.self.now.limit sides c.args.store.now.store c.args.work.now.tree.steps.items c.args.work.now.tree.goals.items c.args.work.now.tree.open c.args.points.now.items later begun c.args.ledger.now.used c.take.new.self.used c.args.left.now c.in_ok-left-in-Some.field-0 c.in-Some.goal w.0 c.new-point.result c.index.result.now.depth space v w.1 found point c.new-point.ensures.here deep (is-used c.take.result c.args.ledger.now.used c.take.new.self.used c.take.ensures.used c.if-not-take.false) in
    subst (λ ps. IsCutExploring c.args.self.now.problem.now c.args.self.now.matrix.now base c.args.self.now.limit sides c.is_left.new.store.store c.is_left.new.work.tree.steps.items c.is_left.new.work.tree.goals.items ps later begun c.take.new.self.used c.in_ok-left-in-Some.field-0) (sym (c.in_ok-push-in-Some.ensures.items ∙ ap (λ ps. ps ++ c.new-point.result ∷ []) c.truncate-in-Some.ensures.items))
    (cut-exploring-moved c.args.self.now.problem.now c.args.self.now.matrix.now base c.args.self.now.limit sides c.args.store.now.store c.is_left.new.store.store c.args.work.now.tree.steps.items c.is_left.new.work.tree.steps.items c.args.work.now.tree.goals.items c.is_left.new.work.tree.goals.items (take c.index.result.now.depth c.args.points.now.items ++ c.new-point.result ∷ []) later begun c.take.new.self.used c.in_ok-left-in-Some.field-0 c.in_ok-left-in-Some.ensures.store c.in_ok-left-in-Some.ensures.tree.0 c.in_ok-left-in-Some.ensures.tree.1 here)

pub returns-in_ok-push-in-Some-clause-counted : goal.returns-in_ok-push-in-Some-clause-counted
returns-in_ok-push-in-Some-clause-counted c = λ base sides later begun space v. passing-one c.args.self.now.problem.now c.args.self.now.limit v.choices (pending_on v.levels ++ later) begun c.args.ledger.now.used c.take.new.self.used v.passing space.from_one (stands-live c.args.self.now.problem.now c.args.self.now.matrix.now base c.args.self.now.limit v.choices c.args.store.now.store c.args.work.now.tree.steps.items c.args.work.now.tree.goals.items c.args.work.now.tree.open v.stands) (is-used c.take.result c.args.ledger.now.used c.take.new.self.used c.take.ensures.used c.if-not-take.false)

pub returns-in_ok-push-in-Some-clause-falls : goal.returns-in_ok-push-in-Some-clause-falls
returns-in_ok-push-in-Some-clause-falls c =
    let l = c.take.new.self.in_budget in
    let b = c.take.ensures.budget in
    subst (λ ps. work_left c.args.ledger.now.budget c.take.new.self.used ps ≤ work_left c.args.ledger.now.budget c.args.ledger.now.used c.args.points.now.items) (sym (c.in_ok-push-in-Some.ensures.items ∙ ap (λ ps. ps ++ c.new-point.result ∷ []) c.truncate-in-Some.ensures.items))
    (cut-falls c.args.ledger.now.budget c.args.ledger.now.used c.take.new.self.used c.args.points.now.items c.index.result.now.depth c.new-point.result (is-used c.take.result c.args.ledger.now.used c.take.new.self.used c.take.ensures.used c.if-not-take.false) (omega (arith, l, b)) c.new-point.ensures.light)
