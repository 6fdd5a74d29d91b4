use Rattle.std.proofs.Common.{◌∙◌, subst, sym}
use Rattle.connection_search.specs.Exploring.{AreAbove}
use Rattle.connection_search.proofs.SearchedLaws.{SearchesPoints, SearchesTree, on-map, room-both, visiting-none}
use Rattle.connection_search.proofs.limit_search.LimitSearch.search_from.Goals as goal

pub visit-requires-clause-visiting : goal.visit-requires-clause-visiting
visit-requires-clause-visiting c = (c.requires.visiting.0, c.requires.visiting.1, c.requires.visiting.2, c.requires.visiting.3, (visiting-none c.args.self.now.problem.now c.args.self.now.matrix.now c.requires.visiting.0 c.args.self.now.limit c.args.store.now.store c.args.work.now.tree.steps.items c.args.work.now.tree.goals.items c.args.work.now.tree.open c.new-points.result.items c.requires.visiting.1 c.requires.visiting.2 c.args.ledger.now.used c.args.left.now c.new-points.ensures.items c.requires.visiting.4))

pub returns-in_err-visit-clause-counted : goal.returns-in_err-visit-clause-counted
returns-in_err-visit-clause-counted c = λ base later begun sp h. c.visit.ensures.counted base later begun sp (visiting-none c.args.self.now.problem.now c.args.self.now.matrix.now base c.args.self.now.limit c.args.store.now.store c.args.work.now.tree.steps.items c.args.work.now.tree.goals.items c.args.work.now.tree.open c.new-points.result.items later begun c.args.ledger.now.used c.args.left.now c.new-points.ensures.items h)

pub returns-in_err-visit-clause-budget : goal.returns-in_err-visit-clause-budget
returns-in_err-visit-clause-budget c = c.visit.ensures.budget

pub returns-in_err-visit-clause-marks : goal.returns-in_err-visit-clause-marks
returns-in_err-visit-clause-marks c = c.visit.ensures.marks

pub returns-in_err-visit-clause-room : goal.returns-in_err-visit-clause-room
returns-in_err-visit-clause-room c = c.visit.ensures.room

pub explore-requires-clause-exploring : goal.explore-requires-clause-exploring
explore-requires-clause-exploring c =
    let on = rw c.in-On.is at c.in_ok-visit.ensures.on in
    (c.requires.visiting.0, c.requires.visiting.1, c.requires.visiting.2, c.requires.visiting.3, on c.requires.visiting.0 c.requires.visiting.1 c.requires.visiting.2 c.requires.visiting.3 (visiting-none c.args.self.now.problem.now c.args.self.now.matrix.now c.requires.visiting.0 c.args.self.now.limit c.args.store.now.store c.args.work.now.tree.steps.items c.args.work.now.tree.goals.items c.args.work.now.tree.open c.new-points.result.items c.requires.visiting.1 c.requires.visiting.2 c.args.ledger.now.used c.args.left.now c.new-points.ensures.items c.requires.visiting.4))

pub returns-in_err-found-in-On-clause-counted : goal.returns-in_err-found-in-On-clause-counted
returns-in_err-found-in-On-clause-counted c = λ base later begun sp h.
    let on = rw c.in-On.is at c.in_ok-visit.ensures.on in
    c.explore.ensures.counted base later begun sp (on base later begun sp (visiting-none c.args.self.now.problem.now c.args.self.now.matrix.now base c.args.self.now.limit c.args.store.now.store c.args.work.now.tree.steps.items c.args.work.now.tree.goals.items c.args.work.now.tree.open c.new-points.result.items later begun c.args.ledger.now.used c.args.left.now c.new-points.ensures.items h))

pub returns-in_err-found-in-On-clause-budget : goal.returns-in_err-found-in-On-clause-budget
returns-in_err-found-in-On-clause-budget c = c.explore.ensures.budget ∙ c.visit.ensures.budget

pub returns-in_err-found-in-On-clause-marks : goal.returns-in_err-found-in-On-clause-marks
returns-in_err-found-in-On-clause-marks c = λ k g. let a = c.visit.ensures.marks k g in let b = c.explore.ensures.moment k a.0 (c.in_ok-visit.ensures.above k g (subst (AreAbove k) (sym c.new-points.ensures.items) tt)) in (b.0, b.1 ∙ a.1)

pub returns-in_err-found-in-On-clause-room : goal.returns-in_err-found-in-On-clause-room
returns-in_err-found-in-On-clause-room c = room-both c.args.store.now c.visit.new.store c.explore.new.store c.visit.ensures.room c.explore.ensures.room

pub returns-in-On-clause-on : goal.returns-in-On-clause-on
returns-in-On-clause-on c =
    let on = rw c.in-On.is at c.in_ok-visit.ensures.on in
    on-map c.in_ok-found-in-On.found (SearchesPoints c.args.self.now.problem.now c.args.self.now.matrix.now c.args.self.now.limit c.visit.new.store.store c.visit.new.work.tree.steps.items c.visit.new.work.tree.goals.items c.visit.new.points.items c.visit.new.ledger.used c.visit.new.left c.explore.new.ledger.used c.explore.new.left) (SearchesTree c.args.self.now.problem.now c.args.self.now.matrix.now c.args.self.now.limit c.args.store.now.store c.args.work.now.tree.steps.items c.args.work.now.tree.goals.items c.args.work.now.tree.open c.args.ledger.now.used c.args.left.now c.explore.new.ledger.used c.explore.new.left) (λ f base later begun sp h. f base later begun sp (on base later begun sp (visiting-none c.args.self.now.problem.now c.args.self.now.matrix.now base c.args.self.now.limit c.args.store.now.store c.args.work.now.tree.steps.items c.args.work.now.tree.goals.items c.args.work.now.tree.open c.new-points.result.items later begun c.args.ledger.now.used c.args.left.now c.new-points.ensures.items h))) c.in_ok-found-in-On.ensures.on

pub returns-in-On-clause-end : goal.returns-in-On-clause-end
returns-in-On-clause-end c = λ base later begun sp h.
    let on = rw c.in-On.is at c.in_ok-visit.ensures.on in
    c.in_ok-found-in-On.ensures.end base later begun sp (on base later begun sp (visiting-none c.args.self.now.problem.now c.args.self.now.matrix.now base c.args.self.now.limit c.args.store.now.store c.args.work.now.tree.steps.items c.args.work.now.tree.goals.items c.args.work.now.tree.open c.new-points.result.items later begun c.args.ledger.now.used c.args.left.now c.new-points.ensures.items h))

pub returns-in-On-clause-counted : goal.returns-in-On-clause-counted
returns-in-On-clause-counted c = λ base later begun sp h.
    let on = rw c.in-On.is at c.in_ok-visit.ensures.on in
    c.explore.ensures.counted base later begun sp (on base later begun sp (visiting-none c.args.self.now.problem.now c.args.self.now.matrix.now base c.args.self.now.limit c.args.store.now.store c.args.work.now.tree.steps.items c.args.work.now.tree.goals.items c.args.work.now.tree.open c.new-points.result.items later begun c.args.ledger.now.used c.args.left.now c.new-points.ensures.items h))

pub returns-in-On-clause-budget : goal.returns-in-On-clause-budget
returns-in-On-clause-budget c = c.explore.ensures.budget ∙ c.visit.ensures.budget

pub returns-in-On-clause-marks : goal.returns-in-On-clause-marks
returns-in-On-clause-marks c = λ k g. let a = c.visit.ensures.marks k g in let b = c.explore.ensures.moment k a.0 (c.in_ok-visit.ensures.above k g (subst (AreAbove k) (sym c.new-points.ensures.items) tt)) in (b.0, b.1 ∙ a.1)

pub returns-in-On-clause-room : goal.returns-in-On-clause-room
returns-in-On-clause-room c = room-both c.args.store.now c.visit.new.store c.explore.new.store c.visit.ensures.room c.explore.ensures.room

pub returns-in-Closed-clause-end : goal.returns-in-Closed-clause-end
returns-in-Closed-clause-end c = λ base later begun sp h.
    let end = rw c.in-Closed.is at c.in_ok-visit.ensures.end in
    end base later begun sp (visiting-none c.args.self.now.problem.now c.args.self.now.matrix.now base c.args.self.now.limit c.args.store.now.store c.args.work.now.tree.steps.items c.args.work.now.tree.goals.items c.args.work.now.tree.open c.new-points.result.items later begun c.args.ledger.now.used c.args.left.now c.new-points.ensures.items h)

pub returns-in-Closed-clause-counted : goal.returns-in-Closed-clause-counted
returns-in-Closed-clause-counted c = λ base later begun sp h. c.visit.ensures.counted base later begun sp (visiting-none c.args.self.now.problem.now c.args.self.now.matrix.now base c.args.self.now.limit c.args.store.now.store c.args.work.now.tree.steps.items c.args.work.now.tree.goals.items c.args.work.now.tree.open c.new-points.result.items later begun c.args.ledger.now.used c.args.left.now c.new-points.ensures.items h)

pub returns-in-Closed-clause-budget : goal.returns-in-Closed-clause-budget
returns-in-Closed-clause-budget c = c.visit.ensures.budget

pub returns-in-Closed-clause-marks : goal.returns-in-Closed-clause-marks
returns-in-Closed-clause-marks c = c.visit.ensures.marks

pub returns-in-Closed-clause-room : goal.returns-in-Closed-clause-room
returns-in-Closed-clause-room c = c.visit.ensures.room

pub returns-clause-end : goal.returns-clause-end
returns-clause-end c = λ base later begun sp h.
    let end = rw c.in-Steps.is at c.in_ok-visit.ensures.end in
    end base later begun sp (visiting-none c.args.self.now.problem.now c.args.self.now.matrix.now base c.args.self.now.limit c.args.store.now.store c.args.work.now.tree.steps.items c.args.work.now.tree.goals.items c.args.work.now.tree.open c.new-points.result.items later begun c.args.ledger.now.used c.args.left.now c.new-points.ensures.items h)

pub returns-clause-counted : goal.returns-clause-counted
returns-clause-counted c = λ base later begun sp h. c.visit.ensures.counted base later begun sp (visiting-none c.args.self.now.problem.now c.args.self.now.matrix.now base c.args.self.now.limit c.args.store.now.store c.args.work.now.tree.steps.items c.args.work.now.tree.goals.items c.args.work.now.tree.open c.new-points.result.items later begun c.args.ledger.now.used c.args.left.now c.new-points.ensures.items h)

pub returns-clause-budget : goal.returns-clause-budget
returns-clause-budget c = c.visit.ensures.budget

pub returns-clause-marks : goal.returns-clause-marks
returns-clause-marks c = c.visit.ensures.marks

pub returns-clause-room : goal.returns-clause-room
returns-clause-room c = c.visit.ensures.room
