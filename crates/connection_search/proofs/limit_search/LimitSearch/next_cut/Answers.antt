use Rattle.std.proofs.Common.{◌<◌, ◌++◌, ◌∷◌, [], ℕ, List, subst, sym}
use Rattle.calculus.specs.Choices.{Choice}
use Rattle.calculus.specs.declared.sign.Side.{Side}
use Rattle.connection_search.specs.Cutting.{IsCutExploring}
use Rattle.connection_search.specs.Exploring.{IsSpace}
use Rattle.search_theory.specs.Cutting.{pending_on}
use Rattle.search_tree.specs.Points.{the_move}
use Rattle.search_tree.specs.Weights.{work_left}
use Rattle.connection_search.proofs.CuttingLaws.{cut-back-at, cut-last-good, cut-made, cut-none-at, cut-refused, cut-tried-at, kept-in, next-less, passing-counted, stands-in, stands-sound}
use Rattle.search_tree.proofs.GivenUpLaws.{dead-alone}
use Rattle.search_tree.proofs.MoveLaws.{goal-here}
use Rattle.connection_search.proofs.TryingLaws.{dropped-falls, if_on, lighter-some, next-falls}
use Rattle.connection_search.proofs.limit_search.LimitSearch.next_cut.Goals as goal

pub return_to-requires : goal.return_to-requires
return_to-requires c = let (base, sides, later, begun, space, e) = c.requires in
    cut-last-good c.args.self.now.problem.now c.args.self.now.matrix.now base c.args.self.now.limit sides c.args.store.now.store c.args.work.now.tree.steps.items c.args.work.now.tree.goals.items c.args.points.now.items c.args.last later begun c.args.ledger.now.used c.args.left.now e

pub next-requires : goal.next-requires
next-requires c = let (base, sides, later, begun, space, e) = c.requires in
    let b = cut-back-at c.args.self.now.problem.now c.args.self.now.matrix.now base c.args.self.now.limit sides c.args.store.now.store c.return_to.new.store.store c.args.work.now.tree.steps.items c.return_to.new.tree.steps.items c.args.work.now.tree.goals.items c.return_to.new.tree.goals.items c.args.points.now.items c.args.last later begun c.args.ledger.now.used c.args.left.now e c.return_to.ensures.store c.return_to.ensures.steps c.return_to.ensures.goals in
    (c.args.self.now.limit, b.goal, b.level.rest, goal-here c.args.self.now.problem.now c.args.self.now.matrix.now base c.args.self.now.limit b.level.before c.return_to.new.store.store c.return_to.new.tree.steps.items c.return_to.new.tree.goals.items c.args.last.goal b.goal b.at, b.has)

pub returns-in_err-choice-clause-counted : goal.returns-in_err-choice-clause-counted
returns-in_err-choice-clause-counted c = λ base sides later begun space e.
    passing-counted c.args.self.now.problem.now c.args.self.now.limit (pending_on e.levels ++ later) begun c.args.ledger.now.used e.passing

pub returns-in_err-push-clause-counted : goal.returns-in_err-push-clause-counted
returns-in_err-push-clause-counted c = λ base sides later begun space e.
    passing-counted c.args.self.now.problem.now c.args.self.now.limit (pending_on e.levels ++ later) begun c.args.ledger.now.used e.passing

pub returns-in-None-clause-counted : goal.returns-in-None-clause-counted
returns-in-None-clause-counted c = λ base sides later begun space e.
    passing-counted c.args.self.now.problem.now c.args.self.now.limit (pending_on e.levels ++ later) begun c.args.ledger.now.used e.passing

pub returns-in_err-make-clause-counted : goal.returns-in_err-make-clause-counted
returns-in_err-make-clause-counted c = λ base sides later begun space e.
    passing-counted c.args.self.now.problem.now c.args.self.now.limit (pending_on e.levels ++ later) begun c.args.ledger.now.used e.passing

pub returns-then-not-branch-clause-counted : goal.returns-then-not-branch-clause-counted
returns-then-not-branch-clause-counted c = λ base sides later begun space e.
    passing-counted c.args.self.now.problem.now c.args.self.now.limit (pending_on e.levels ++ later) begun c.args.ledger.now.used e.passing

pub returns-in_err-is_regular-clause-counted : goal.returns-in_err-is_regular-clause-counted
returns-in_err-is_regular-clause-counted c = λ base sides later begun space e.
    passing-counted c.args.self.now.problem.now c.args.self.now.limit (pending_on e.levels ++ later) begun c.args.ledger.now.used e.passing

pub returns-then-not-branch-2-clause-counted : goal.returns-then-not-branch-2-clause-counted
returns-then-not-branch-2-clause-counted c = λ base sides later begun space e.
    passing-counted c.args.self.now.problem.now c.args.self.now.limit (pending_on e.levels ++ later) begun c.args.ledger.now.used e.passing

pub returns-in-None-clause-on : goal.returns-in-None-clause-on
returns-in-None-clause-on c = λ base sides later begun space e.
    cut-none-at c.args.self.now.problem.now c.args.self.now.matrix.now base c.args.self.now.limit sides c.args.store.now.store c.return_to.new.store.store c.args.work.now.tree.steps.items c.return_to.new.tree.steps.items c.args.work.now.tree.goals.items c.return_to.new.tree.goals.items c.args.points.now.items c.args.last c.next.new.self later begun c.args.ledger.now.used c.args.left.now _ c.return_to.ensures.store c.return_to.ensures.steps c.return_to.ensures.goals c.in_ok-choice.ensures.next c.in-None.is e

pub returns-in-None-clause-falls : goal.returns-in-None-clause-falls
returns-in-None-clause-falls c = dropped-falls c.args.ledger.now.budget c.args.ledger.now.used c.args.points.now.items c.args.last

pub make-requires : goal.make-requires
make-requires c = let (base, sides, later, begun, space, e) = c.requires in
    let t = cut-tried-at c.args.self.now.problem.now c.args.self.now.matrix.now base c.args.self.now.limit sides c.args.store.now.store c.return_to.new.store.store c.args.work.now.tree.steps.items c.return_to.new.tree.steps.items c.args.work.now.tree.goals.items c.return_to.new.tree.goals.items c.args.points.now.items c.push.new.self.items c.args.last c.next.new.self later begun c.args.ledger.now.used c.args.left.now _ c.in-Some.choice c.return_to.ensures.store c.return_to.ensures.steps c.return_to.ensures.goals c.in_ok-push.ensures.items c.in_ok-choice.ensures.same c.in_ok-choice.ensures.next c.in-Some.is e in
    (c.args.self.now.problem.now, base, c.args.self.now.limit, t.before, t.at_goal, space.matrix, t.at, t.move)

pub returns-then-not-branch-clause-on : goal.returns-then-not-branch-clause-on
returns-then-not-branch-clause-on c = λ base sides later begun space e.
    let t = cut-tried-at c.args.self.now.problem.now c.args.self.now.matrix.now base c.args.self.now.limit sides c.args.store.now.store c.return_to.new.store.store c.args.work.now.tree.steps.items c.return_to.new.tree.steps.items c.args.work.now.tree.goals.items c.return_to.new.tree.goals.items c.args.points.now.items c.push.new.self.items c.args.last c.next.new.self later begun c.args.ledger.now.used c.args.left.now _ c.in-Some.choice c.return_to.ensures.store c.return_to.ensures.steps c.return_to.ensures.goals c.in_ok-push.ensures.items c.in_ok-choice.ensures.same c.in_ok-choice.ensures.next c.in-Some.is e in
    cut-refused c.args.self.now.problem.now c.args.self.now.matrix.now base c.args.self.now.limit sides c.return_to.new.store.store c.make.new.store.store c.return_to.new.tree.steps.items c.make.new.self.tree.steps.items c.return_to.new.tree.goals.items c.make.new.self.tree.goals.items c.push.new.self.items later begun c.args.ledger.now.used c.args.left.now c.next.new.self.goal c.in-Some.choice t c.make.ensures.marks c.in_ok-make.ensures.kept (dead-alone c.args.self.now.problem.now c.args.self.now.limit (t.before ++ the_move c.args.self.now.matrix.now c.in-Some.choice ∷ []) (c.in_ok-make.ensures.refused c.if-not-branch.true c.args.self.now.problem.now base c.args.self.now.limit t.before t.at_goal space.matrix t.at t.move tt))

pub returns-then-not-branch-clause-falls : goal.returns-then-not-branch-clause-falls
returns-then-not-branch-clause-falls c = subst (λ ps. work_left c.args.ledger.now.budget c.args.ledger.now.used ps < work_left c.args.ledger.now.budget c.args.ledger.now.used (c.args.points.now.items ++ c.args.last ∷ [])) (sym c.in_ok-push.ensures.items) (next-falls c.args.ledger.now.budget c.args.ledger.now.used c.args.points.now.items c.args.last c.next.new.self (lighter-some c.args.last c.next.new.self _ c.in-Some.choice c.in_ok-choice.ensures.falls c.in-Some.is))

pub is_regular-requires : goal.is_regular-requires
is_regular-requires c = let (base, sides, later, begun, space, e) = c.requires in
    let t = cut-tried-at c.args.self.now.problem.now c.args.self.now.matrix.now base c.args.self.now.limit sides c.args.store.now.store c.return_to.new.store.store c.args.work.now.tree.steps.items c.return_to.new.tree.steps.items c.args.work.now.tree.goals.items c.return_to.new.tree.goals.items c.args.points.now.items c.push.new.self.items c.args.last c.next.new.self later begun c.args.ledger.now.used c.args.left.now _ c.in-Some.choice c.return_to.ensures.store c.return_to.ensures.steps c.return_to.ensures.goals c.in_ok-push.ensures.items c.in_ok-choice.ensures.same c.in_ok-choice.ensures.next c.in-Some.is e in
    (c.args.self.now.problem.now, c.args.self.now.matrix.now, base, c.args.self.now.limit, t.before ++ the_move c.args.self.now.matrix.now c.in-Some.choice ∷ [], c.in_ok-make.ensures.made c.if-not-branch.false c.args.self.now.problem.now base c.args.self.now.limit t.before t.at_goal space.matrix t.at t.move)

pub returns-then-not-branch-2-clause-on : goal.returns-then-not-branch-2-clause-on
returns-then-not-branch-2-clause-on c = λ base sides later begun space e.
    let t = cut-tried-at c.args.self.now.problem.now c.args.self.now.matrix.now base c.args.self.now.limit sides c.args.store.now.store c.return_to.new.store.store c.args.work.now.tree.steps.items c.return_to.new.tree.steps.items c.args.work.now.tree.goals.items c.return_to.new.tree.goals.items c.args.points.now.items c.push.new.self.items c.args.last c.next.new.self later begun c.args.ledger.now.used c.args.left.now _ c.in-Some.choice c.return_to.ensures.store c.return_to.ensures.steps c.return_to.ensures.goals c.in_ok-push.ensures.items c.in_ok-choice.ensures.same c.in_ok-choice.ensures.next c.in-Some.is e in
    cut-refused c.args.self.now.problem.now c.args.self.now.matrix.now base c.args.self.now.limit sides c.return_to.new.store.store c.make.new.store.store c.return_to.new.tree.steps.items c.is_regular.new.self.tree.steps.items c.return_to.new.tree.goals.items c.is_regular.new.self.tree.goals.items c.push.new.self.items later begun c.args.ledger.now.used c.args.left.now c.next.new.self.goal c.in-Some.choice t c.make.ensures.marks (kept-in c.make.new.self.tree c.is_regular.new.self.tree c.return_to.new.tree.steps.items c.return_to.new.tree.goals.items c.in_ok-is_regular.ensures.tree c.in_ok-make.ensures.kept) (c.in_ok-is_regular.ensures.repeated c.if-not-branch-2.true c.args.self.now.problem.now c.args.self.now.matrix.now base c.args.self.now.limit (t.before ++ the_move c.args.self.now.matrix.now c.in-Some.choice ∷ []) (c.in_ok-make.ensures.made c.if-not-branch.false c.args.self.now.problem.now base c.args.self.now.limit t.before t.at_goal space.matrix t.at t.move))

pub returns-then-not-branch-2-clause-falls : goal.returns-then-not-branch-2-clause-falls
returns-then-not-branch-2-clause-falls c = subst (λ ps. work_left c.args.ledger.now.budget c.args.ledger.now.used ps < work_left c.args.ledger.now.budget c.args.ledger.now.used (c.args.points.now.items ++ c.args.last ∷ [])) (sym c.in_ok-push.ensures.items) (next-falls c.args.ledger.now.budget c.args.ledger.now.used c.args.points.now.items c.args.last c.next.new.self (lighter-some c.args.last c.next.new.self _ c.in-Some.choice c.in_ok-choice.ensures.falls c.in-Some.is))

pub visit_cut-requires : goal.visit_cut-requires
visit_cut-requires c = let (base, sides, later, begun, space, e) = c.requires in
    let t = cut-tried-at c.args.self.now.problem.now c.args.self.now.matrix.now base c.args.self.now.limit sides c.args.store.now.store c.return_to.new.store.store c.args.work.now.tree.steps.items c.return_to.new.tree.steps.items c.args.work.now.tree.goals.items c.return_to.new.tree.goals.items c.args.points.now.items c.push.new.self.items c.args.last c.next.new.self later begun c.args.ledger.now.used c.args.left.now _ c.in-Some.choice c.return_to.ensures.store c.return_to.ensures.steps c.return_to.ensures.goals c.in_ok-push.ensures.items c.in_ok-choice.ensures.same c.in_ok-choice.ensures.next c.in-Some.is e in
    (base, sides, later, begun, space, cut-made c.args.self.now.problem.now c.args.self.now.matrix.now base c.args.self.now.limit sides c.return_to.new.store.store c.make.new.store.store c.return_to.new.tree.steps.items c.is_regular.new.self.tree.steps.items c.return_to.new.tree.goals.items c.is_regular.new.self.tree.goals.items c.is_regular.new.self.tree.open c.push.new.self.items later begun c.args.ledger.now.used c.args.left.now c.next.new.self.goal c.in-Some.choice t c.make.ensures.marks (kept-in c.make.new.self.tree c.is_regular.new.self.tree c.return_to.new.tree.steps.items c.return_to.new.tree.goals.items c.in_ok-is_regular.ensures.tree c.in_ok-make.ensures.kept) (stands-in c.args.self.now.problem.now c.args.self.now.matrix.now base c.args.self.now.limit (t.before ++ the_move c.args.self.now.matrix.now c.in-Some.choice ∷ []) c.make.new.store.store c.make.new.self.tree c.is_regular.new.self.tree c.in_ok-is_regular.ensures.tree (c.in_ok-make.ensures.made c.if-not-branch.false c.args.self.now.problem.now base c.args.self.now.limit t.before t.at_goal space.matrix t.at t.move)) (stands-sound c.args.self.now.problem.now c.args.self.now.matrix.now base c.args.self.now.limit (t.before ++ the_move c.args.self.now.matrix.now c.in-Some.choice ∷ []) c.make.new.store.store c.make.new.self.tree.steps.items c.make.new.self.tree.goals.items c.make.new.self.tree.open (c.in_ok-make.ensures.made c.if-not-branch.false c.args.self.now.problem.now base c.args.self.now.limit t.before t.at_goal space.matrix t.at t.move) (λ cs x at. c.in_ok-is_regular.ensures.new c.if-not-branch-2.false c.args.self.now.problem.now c.args.self.now.matrix.now base c.args.self.now.limit (t.before ++ the_move c.args.self.now.matrix.now c.in-Some.choice ∷ []) cs x at)))

pub returns-in_err-visit-clause-counted : goal.returns-in_err-visit-clause-counted
returns-in_err-visit-clause-counted c = λ base sides later begun space e.
    let t = cut-tried-at c.args.self.now.problem.now c.args.self.now.matrix.now base c.args.self.now.limit sides c.args.store.now.store c.return_to.new.store.store c.args.work.now.tree.steps.items c.return_to.new.tree.steps.items c.args.work.now.tree.goals.items c.return_to.new.tree.goals.items c.args.points.now.items c.push.new.self.items c.args.last c.next.new.self later begun c.args.ledger.now.used c.args.left.now _ c.in-Some.choice c.return_to.ensures.store c.return_to.ensures.steps c.return_to.ensures.goals c.in_ok-push.ensures.items c.in_ok-choice.ensures.same c.in_ok-choice.ensures.next c.in-Some.is e in
    c.visit_cut.ensures.counted base sides later begun space (cut-made c.args.self.now.problem.now c.args.self.now.matrix.now base c.args.self.now.limit sides c.return_to.new.store.store c.make.new.store.store c.return_to.new.tree.steps.items c.is_regular.new.self.tree.steps.items c.return_to.new.tree.goals.items c.is_regular.new.self.tree.goals.items c.is_regular.new.self.tree.open c.push.new.self.items later begun c.args.ledger.now.used c.args.left.now c.next.new.self.goal c.in-Some.choice t c.make.ensures.marks (kept-in c.make.new.self.tree c.is_regular.new.self.tree c.return_to.new.tree.steps.items c.return_to.new.tree.goals.items c.in_ok-is_regular.ensures.tree c.in_ok-make.ensures.kept) (stands-in c.args.self.now.problem.now c.args.self.now.matrix.now base c.args.self.now.limit (t.before ++ the_move c.args.self.now.matrix.now c.in-Some.choice ∷ []) c.make.new.store.store c.make.new.self.tree c.is_regular.new.self.tree c.in_ok-is_regular.ensures.tree (c.in_ok-make.ensures.made c.if-not-branch.false c.args.self.now.problem.now base c.args.self.now.limit t.before t.at_goal space.matrix t.at t.move)) (stands-sound c.args.self.now.problem.now c.args.self.now.matrix.now base c.args.self.now.limit (t.before ++ the_move c.args.self.now.matrix.now c.in-Some.choice ∷ []) c.make.new.store.store c.make.new.self.tree.steps.items c.make.new.self.tree.goals.items c.make.new.self.tree.open (c.in_ok-make.ensures.made c.if-not-branch.false c.args.self.now.problem.now base c.args.self.now.limit t.before t.at_goal space.matrix t.at t.move) (λ cs x at. c.in_ok-is_regular.ensures.new c.if-not-branch-2.false c.args.self.now.problem.now c.args.self.now.matrix.now base c.args.self.now.limit (t.before ++ the_move c.args.self.now.matrix.now c.in-Some.choice ∷ []) cs x at)))

pub returns-in_err-visit-clause-budget : goal.returns-in_err-visit-clause-budget
returns-in_err-visit-clause-budget c = c.visit_cut.ensures.budget

pub returns-clause-on : goal.returns-clause-on
returns-clause-on c = if_on _ _ ((base : ℕ) (sides : List Side) (later : List (List Choice)) (begun : ℕ) → IsSpace c.args.self.now.problem.now c.args.self.now.matrix.now c.args.self.now.limit → IsCutExploring c.args.self.now.problem.now c.args.self.now.matrix.now base c.args.self.now.limit sides c.args.store.now.store c.args.work.now.tree.steps.items c.args.work.now.tree.goals.items (c.args.points.now.items ++ c.args.last ∷ []) later begun c.args.ledger.now.used c.args.left.now → IsCutExploring c.args.self.now.problem.now c.args.self.now.matrix.now base c.args.self.now.limit sides c.visit_cut.new.store.store c.visit_cut.new.work.tree.steps.items c.visit_cut.new.work.tree.goals.items c.visit_cut.new.points.items later begun c.visit_cut.new.ledger.used c.visit_cut.new.left) c.in_ok-visit.ensures.on (λ f base sides later begun space e.
    let t = cut-tried-at c.args.self.now.problem.now c.args.self.now.matrix.now base c.args.self.now.limit sides c.args.store.now.store c.return_to.new.store.store c.args.work.now.tree.steps.items c.return_to.new.tree.steps.items c.args.work.now.tree.goals.items c.return_to.new.tree.goals.items c.args.points.now.items c.push.new.self.items c.args.last c.next.new.self later begun c.args.ledger.now.used c.args.left.now _ c.in-Some.choice c.return_to.ensures.store c.return_to.ensures.steps c.return_to.ensures.goals c.in_ok-push.ensures.items c.in_ok-choice.ensures.same c.in_ok-choice.ensures.next c.in-Some.is e in
    f base sides later begun space (cut-made c.args.self.now.problem.now c.args.self.now.matrix.now base c.args.self.now.limit sides c.return_to.new.store.store c.make.new.store.store c.return_to.new.tree.steps.items c.is_regular.new.self.tree.steps.items c.return_to.new.tree.goals.items c.is_regular.new.self.tree.goals.items c.is_regular.new.self.tree.open c.push.new.self.items later begun c.args.ledger.now.used c.args.left.now c.next.new.self.goal c.in-Some.choice t c.make.ensures.marks (kept-in c.make.new.self.tree c.is_regular.new.self.tree c.return_to.new.tree.steps.items c.return_to.new.tree.goals.items c.in_ok-is_regular.ensures.tree c.in_ok-make.ensures.kept) (stands-in c.args.self.now.problem.now c.args.self.now.matrix.now base c.args.self.now.limit (t.before ++ the_move c.args.self.now.matrix.now c.in-Some.choice ∷ []) c.make.new.store.store c.make.new.self.tree c.is_regular.new.self.tree c.in_ok-is_regular.ensures.tree (c.in_ok-make.ensures.made c.if-not-branch.false c.args.self.now.problem.now base c.args.self.now.limit t.before t.at_goal space.matrix t.at t.move)) (stands-sound c.args.self.now.problem.now c.args.self.now.matrix.now base c.args.self.now.limit (t.before ++ the_move c.args.self.now.matrix.now c.in-Some.choice ∷ []) c.make.new.store.store c.make.new.self.tree.steps.items c.make.new.self.tree.goals.items c.make.new.self.tree.open (c.in_ok-make.ensures.made c.if-not-branch.false c.args.self.now.problem.now base c.args.self.now.limit t.before t.at_goal space.matrix t.at t.move) (λ cs x at. c.in_ok-is_regular.ensures.new c.if-not-branch-2.false c.args.self.now.problem.now c.args.self.now.matrix.now base c.args.self.now.limit (t.before ++ the_move c.args.self.now.matrix.now c.in-Some.choice ∷ []) cs x at))))

pub returns-clause-end : goal.returns-clause-end
returns-clause-end c = λ base sides later begun space e.
    let t = cut-tried-at c.args.self.now.problem.now c.args.self.now.matrix.now base c.args.self.now.limit sides c.args.store.now.store c.return_to.new.store.store c.args.work.now.tree.steps.items c.return_to.new.tree.steps.items c.args.work.now.tree.goals.items c.return_to.new.tree.goals.items c.args.points.now.items c.push.new.self.items c.args.last c.next.new.self later begun c.args.ledger.now.used c.args.left.now _ c.in-Some.choice c.return_to.ensures.store c.return_to.ensures.steps c.return_to.ensures.goals c.in_ok-push.ensures.items c.in_ok-choice.ensures.same c.in_ok-choice.ensures.next c.in-Some.is e in
    c.in_ok-visit.ensures.end base sides later begun space (cut-made c.args.self.now.problem.now c.args.self.now.matrix.now base c.args.self.now.limit sides c.return_to.new.store.store c.make.new.store.store c.return_to.new.tree.steps.items c.is_regular.new.self.tree.steps.items c.return_to.new.tree.goals.items c.is_regular.new.self.tree.goals.items c.is_regular.new.self.tree.open c.push.new.self.items later begun c.args.ledger.now.used c.args.left.now c.next.new.self.goal c.in-Some.choice t c.make.ensures.marks (kept-in c.make.new.self.tree c.is_regular.new.self.tree c.return_to.new.tree.steps.items c.return_to.new.tree.goals.items c.in_ok-is_regular.ensures.tree c.in_ok-make.ensures.kept) (stands-in c.args.self.now.problem.now c.args.self.now.matrix.now base c.args.self.now.limit (t.before ++ the_move c.args.self.now.matrix.now c.in-Some.choice ∷ []) c.make.new.store.store c.make.new.self.tree c.is_regular.new.self.tree c.in_ok-is_regular.ensures.tree (c.in_ok-make.ensures.made c.if-not-branch.false c.args.self.now.problem.now base c.args.self.now.limit t.before t.at_goal space.matrix t.at t.move)) (stands-sound c.args.self.now.problem.now c.args.self.now.matrix.now base c.args.self.now.limit (t.before ++ the_move c.args.self.now.matrix.now c.in-Some.choice ∷ []) c.make.new.store.store c.make.new.self.tree.steps.items c.make.new.self.tree.goals.items c.make.new.self.tree.open (c.in_ok-make.ensures.made c.if-not-branch.false c.args.self.now.problem.now base c.args.self.now.limit t.before t.at_goal space.matrix t.at t.move) (λ cs x at. c.in_ok-is_regular.ensures.new c.if-not-branch-2.false c.args.self.now.problem.now c.args.self.now.matrix.now base c.args.self.now.limit (t.before ++ the_move c.args.self.now.matrix.now c.in-Some.choice ∷ []) cs x at)))

pub returns-clause-counted : goal.returns-clause-counted
returns-clause-counted c = λ base sides later begun space e.
    let t = cut-tried-at c.args.self.now.problem.now c.args.self.now.matrix.now base c.args.self.now.limit sides c.args.store.now.store c.return_to.new.store.store c.args.work.now.tree.steps.items c.return_to.new.tree.steps.items c.args.work.now.tree.goals.items c.return_to.new.tree.goals.items c.args.points.now.items c.push.new.self.items c.args.last c.next.new.self later begun c.args.ledger.now.used c.args.left.now _ c.in-Some.choice c.return_to.ensures.store c.return_to.ensures.steps c.return_to.ensures.goals c.in_ok-push.ensures.items c.in_ok-choice.ensures.same c.in_ok-choice.ensures.next c.in-Some.is e in
    c.visit_cut.ensures.counted base sides later begun space (cut-made c.args.self.now.problem.now c.args.self.now.matrix.now base c.args.self.now.limit sides c.return_to.new.store.store c.make.new.store.store c.return_to.new.tree.steps.items c.is_regular.new.self.tree.steps.items c.return_to.new.tree.goals.items c.is_regular.new.self.tree.goals.items c.is_regular.new.self.tree.open c.push.new.self.items later begun c.args.ledger.now.used c.args.left.now c.next.new.self.goal c.in-Some.choice t c.make.ensures.marks (kept-in c.make.new.self.tree c.is_regular.new.self.tree c.return_to.new.tree.steps.items c.return_to.new.tree.goals.items c.in_ok-is_regular.ensures.tree c.in_ok-make.ensures.kept) (stands-in c.args.self.now.problem.now c.args.self.now.matrix.now base c.args.self.now.limit (t.before ++ the_move c.args.self.now.matrix.now c.in-Some.choice ∷ []) c.make.new.store.store c.make.new.self.tree c.is_regular.new.self.tree c.in_ok-is_regular.ensures.tree (c.in_ok-make.ensures.made c.if-not-branch.false c.args.self.now.problem.now base c.args.self.now.limit t.before t.at_goal space.matrix t.at t.move)) (stands-sound c.args.self.now.problem.now c.args.self.now.matrix.now base c.args.self.now.limit (t.before ++ the_move c.args.self.now.matrix.now c.in-Some.choice ∷ []) c.make.new.store.store c.make.new.self.tree.steps.items c.make.new.self.tree.goals.items c.make.new.self.tree.open (c.in_ok-make.ensures.made c.if-not-branch.false c.args.self.now.problem.now base c.args.self.now.limit t.before t.at_goal space.matrix t.at t.move) (λ cs x at. c.in_ok-is_regular.ensures.new c.if-not-branch-2.false c.args.self.now.problem.now c.args.self.now.matrix.now base c.args.self.now.limit (t.before ++ the_move c.args.self.now.matrix.now c.in-Some.choice ∷ []) cs x at)))

pub returns-clause-budget : goal.returns-clause-budget
returns-clause-budget c = c.visit_cut.ensures.budget

pub returns-clause-falls : goal.returns-clause-falls
returns-clause-falls c = if_on _ _ _ c.in_ok-visit.ensures.falls (λ l. next-less c.args.ledger.now.budget c.args.ledger.now.used c.visit_cut.new.ledger.used c.args.points.now.items c.push.new.self.items c.visit_cut.new.points.items c.args.last c.next.new.self c.in_ok-push.ensures.items (lighter-some c.args.last c.next.new.self _ c.in-Some.choice c.in_ok-choice.ensures.falls c.in-Some.is) l)
