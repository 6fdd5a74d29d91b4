use Rattle.std.proofs.Common.{[], ◌∷◌, ◌∙◌, ℕ, List, Some, ap, slice_get}
use Rattle.calculus.specs.Choices.{Choice, start}
use Rattle.connection_search.specs.Cutting.{IsCutFailed, IsPassing}
use Rattle.connection_search.specs.Exploring.{IsSpace}
use Rattle.search_theory.specs.OrderedChoices.{selection_of}
use Rattle.connection_search.proofs.CuttingLaws.{cut-no-start, cut-started, passing-counted}
use Rattle.connection_search.proofs.TryingLaws.{if_on}
use Rattle.connection_search.proofs.limit_search.LimitSearch.start_cut.Goals as goal

pub returns-then-not-starts-clause-on : goal.returns-then-not-starts-clause-on
returns-then-not-starts-clause-on c = λ later begun sp h. cut-no-start c.args.self.now.problem.now c.args.self.now.matrix.now c.args.self.now.limit c.args.clause.0 later begun c.args.ledger.now.used c.args.left.now sp.matrix c.requires.clause (c.is_start-starts.ensures ∙ ap Some c.if-not-starts.true) h

pub returns-then-not-starts-clause-counted : goal.returns-then-not-starts-clause-counted
returns-then-not-starts-clause-counted c = λ later begun sp h. passing-counted c.args.self.now.problem.now c.args.self.now.limit ((start (selection_of (slice_get c.args.self.now.matrix.now c.args.clause.0)) ∷ []) ∷ later) begun c.args.ledger.now.used h

pub start-requires-clause-matrix : goal.start-requires-clause-matrix
start-requires-clause-matrix c = (c.args.self.now.problem.now, c.requires.passing.2.matrix)

pub start-requires-clause-clause : goal.start-requires-clause-clause
start-requires-clause-clause c = c.requires.clause

pub start-requires-clause-steps : goal.start-requires-clause-steps
start-requires-clause-steps c = c.new-work.ensures.steps

pub start-requires-clause-goals : goal.start-requires-clause-goals
start-requires-clause-goals c = c.new-work.ensures.goals

pub returns-in_err-store-clause-counted : goal.returns-in_err-store-clause-counted
returns-in_err-store-clause-counted c = λ later begun sp h. passing-counted c.args.self.now.problem.now c.args.self.now.limit ((start (selection_of (slice_get c.args.self.now.matrix.now c.args.clause.0)) ∷ []) ∷ later) begun c.args.ledger.now.used h

pub returns-in_err-start-clause-counted : goal.returns-in_err-start-clause-counted
returns-in_err-start-clause-counted c = λ later begun sp h. passing-counted c.args.self.now.problem.now c.args.self.now.limit ((start (selection_of (slice_get c.args.self.now.matrix.now c.args.clause.0)) ∷ []) ∷ later) begun c.args.ledger.now.used h

pub visit_cut-requires : goal.visit_cut-requires
visit_cut-requires c = let (later, begun, sp, h) = c.requires.passing in (_, (selection_of (slice_get c.args.self.now.matrix.now c.args.clause.0)), later, begun, sp, cut-started c.args.self.now.problem.now c.args.self.now.matrix.now _ c.args.self.now.limit (selection_of (slice_get c.args.self.now.matrix.now c.args.clause.0)) c.start.new.store.store c.start.new.self.tree.steps.items c.start.new.self.tree.goals.items c.start.new.self.tree.open c.new-points.result.items later begun c.args.ledger.now.used c.args.left.now c.new-points.ensures.items (c.in_ok-start.ensures.started c.args.self.now.problem.now c.args.self.now.limit sp.matrix (c.is_start-starts.ensures ∙ ap Some c.if-not-starts.false)) h)

pub returns-in_err-visit_cut-clause-counted : goal.returns-in_err-visit_cut-clause-counted
returns-in_err-visit_cut-clause-counted c = λ later begun sp h. c.visit_cut.ensures.counted _ (selection_of (slice_get c.args.self.now.matrix.now c.args.clause.0)) later begun sp (cut-started c.args.self.now.problem.now c.args.self.now.matrix.now _ c.args.self.now.limit (selection_of (slice_get c.args.self.now.matrix.now c.args.clause.0)) c.start.new.store.store c.start.new.self.tree.steps.items c.start.new.self.tree.goals.items c.start.new.self.tree.open c.new-points.result.items later begun c.args.ledger.now.used c.args.left.now c.new-points.ensures.items (c.in_ok-start.ensures.started c.args.self.now.problem.now c.args.self.now.limit sp.matrix (c.is_start-starts.ensures ∙ ap Some c.if-not-starts.false)) h)

pub returns-in_err-visit_cut-clause-budget : goal.returns-in_err-visit_cut-clause-budget
returns-in_err-visit_cut-clause-budget c = c.visit_cut.ensures.budget

pub explore_cut-requires : goal.explore_cut-requires
explore_cut-requires c = let (later, begun, sp, h) = c.requires.passing in
    let on = rw c.in-On.is at c.in_ok-visit_cut.ensures.on in (_, (selection_of (slice_get c.args.self.now.matrix.now c.args.clause.0)), later, begun, sp, on _ (selection_of (slice_get c.args.self.now.matrix.now c.args.clause.0)) later begun sp (cut-started c.args.self.now.problem.now c.args.self.now.matrix.now _ c.args.self.now.limit (selection_of (slice_get c.args.self.now.matrix.now c.args.clause.0)) c.start.new.store.store c.start.new.self.tree.steps.items c.start.new.self.tree.goals.items c.start.new.self.tree.open c.new-points.result.items later begun c.args.ledger.now.used c.args.left.now c.new-points.ensures.items (c.in_ok-start.ensures.started c.args.self.now.problem.now c.args.self.now.limit sp.matrix (c.is_start-starts.ensures ∙ ap Some c.if-not-starts.false)) h))

pub returns-in_err-found-in-On-clause-counted : goal.returns-in_err-found-in-On-clause-counted
returns-in_err-found-in-On-clause-counted c = λ later begun sp h. let on = rw c.in-On.is at c.in_ok-visit_cut.ensures.on in c.explore_cut.ensures.counted _ (selection_of (slice_get c.args.self.now.matrix.now c.args.clause.0)) later begun sp (on _ (selection_of (slice_get c.args.self.now.matrix.now c.args.clause.0)) later begun sp (cut-started c.args.self.now.problem.now c.args.self.now.matrix.now _ c.args.self.now.limit (selection_of (slice_get c.args.self.now.matrix.now c.args.clause.0)) c.start.new.store.store c.start.new.self.tree.steps.items c.start.new.self.tree.goals.items c.start.new.self.tree.open c.new-points.result.items later begun c.args.ledger.now.used c.args.left.now c.new-points.ensures.items (c.in_ok-start.ensures.started c.args.self.now.problem.now c.args.self.now.limit sp.matrix (c.is_start-starts.ensures ∙ ap Some c.if-not-starts.false)) h))

pub returns-in_err-found-in-On-clause-budget : goal.returns-in_err-found-in-On-clause-budget
returns-in_err-found-in-On-clause-budget c = c.explore_cut.ensures.budget ∙ c.visit_cut.ensures.budget

pub returns-in-On-clause-on : goal.returns-in-On-clause-on
returns-in-On-clause-on c = if_on _ _ ((later : List (List Choice)) (begun : ℕ) → IsSpace c.args.self.now.problem.now c.args.self.now.matrix.now c.args.self.now.limit → IsPassing c.args.self.now.problem.now c.args.self.now.limit ((start (selection_of (slice_get c.args.self.now.matrix.now c.args.clause.0)) ∷ []) ∷ later) begun c.args.ledger.now.used → IsCutFailed c.args.self.now.problem.now c.args.self.now.limit (selection_of (slice_get c.args.self.now.matrix.now c.args.clause.0)) later begun c.explore_cut.new.ledger.used c.explore_cut.new.left) c.in_ok-found-in-On.ensures.on (λ f later begun sp h. let on = rw c.in-On.is at c.in_ok-visit_cut.ensures.on in f _ (selection_of (slice_get c.args.self.now.matrix.now c.args.clause.0)) later begun sp (on _ (selection_of (slice_get c.args.self.now.matrix.now c.args.clause.0)) later begun sp (cut-started c.args.self.now.problem.now c.args.self.now.matrix.now _ c.args.self.now.limit (selection_of (slice_get c.args.self.now.matrix.now c.args.clause.0)) c.start.new.store.store c.start.new.self.tree.steps.items c.start.new.self.tree.goals.items c.start.new.self.tree.open c.new-points.result.items later begun c.args.ledger.now.used c.args.left.now c.new-points.ensures.items (c.in_ok-start.ensures.started c.args.self.now.problem.now c.args.self.now.limit sp.matrix (c.is_start-starts.ensures ∙ ap Some c.if-not-starts.false)) h)))

pub returns-in-On-clause-end : goal.returns-in-On-clause-end
returns-in-On-clause-end c = λ later begun sp h. let on = rw c.in-On.is at c.in_ok-visit_cut.ensures.on in c.in_ok-found-in-On.ensures.end _ (selection_of (slice_get c.args.self.now.matrix.now c.args.clause.0)) later begun sp (on _ (selection_of (slice_get c.args.self.now.matrix.now c.args.clause.0)) later begun sp (cut-started c.args.self.now.problem.now c.args.self.now.matrix.now _ c.args.self.now.limit (selection_of (slice_get c.args.self.now.matrix.now c.args.clause.0)) c.start.new.store.store c.start.new.self.tree.steps.items c.start.new.self.tree.goals.items c.start.new.self.tree.open c.new-points.result.items later begun c.args.ledger.now.used c.args.left.now c.new-points.ensures.items (c.in_ok-start.ensures.started c.args.self.now.problem.now c.args.self.now.limit sp.matrix (c.is_start-starts.ensures ∙ ap Some c.if-not-starts.false)) h))

pub returns-in-On-clause-counted : goal.returns-in-On-clause-counted
returns-in-On-clause-counted c = λ later begun sp h. let on = rw c.in-On.is at c.in_ok-visit_cut.ensures.on in c.explore_cut.ensures.counted _ (selection_of (slice_get c.args.self.now.matrix.now c.args.clause.0)) later begun sp (on _ (selection_of (slice_get c.args.self.now.matrix.now c.args.clause.0)) later begun sp (cut-started c.args.self.now.problem.now c.args.self.now.matrix.now _ c.args.self.now.limit (selection_of (slice_get c.args.self.now.matrix.now c.args.clause.0)) c.start.new.store.store c.start.new.self.tree.steps.items c.start.new.self.tree.goals.items c.start.new.self.tree.open c.new-points.result.items later begun c.args.ledger.now.used c.args.left.now c.new-points.ensures.items (c.in_ok-start.ensures.started c.args.self.now.problem.now c.args.self.now.limit sp.matrix (c.is_start-starts.ensures ∙ ap Some c.if-not-starts.false)) h))

pub returns-in-On-clause-budget : goal.returns-in-On-clause-budget
returns-in-On-clause-budget c = c.explore_cut.ensures.budget ∙ c.visit_cut.ensures.budget

pub returns-in-Closed-clause-end : goal.returns-in-Closed-clause-end
returns-in-Closed-clause-end c = λ later begun sp h. let end = rw c.in-Closed.is at c.in_ok-visit_cut.ensures.end in end _ (selection_of (slice_get c.args.self.now.matrix.now c.args.clause.0)) later begun sp (cut-started c.args.self.now.problem.now c.args.self.now.matrix.now _ c.args.self.now.limit (selection_of (slice_get c.args.self.now.matrix.now c.args.clause.0)) c.start.new.store.store c.start.new.self.tree.steps.items c.start.new.self.tree.goals.items c.start.new.self.tree.open c.new-points.result.items later begun c.args.ledger.now.used c.args.left.now c.new-points.ensures.items (c.in_ok-start.ensures.started c.args.self.now.problem.now c.args.self.now.limit sp.matrix (c.is_start-starts.ensures ∙ ap Some c.if-not-starts.false)) h)

pub returns-in-Closed-clause-counted : goal.returns-in-Closed-clause-counted
returns-in-Closed-clause-counted c = λ later begun sp h. c.visit_cut.ensures.counted _ (selection_of (slice_get c.args.self.now.matrix.now c.args.clause.0)) later begun sp (cut-started c.args.self.now.problem.now c.args.self.now.matrix.now _ c.args.self.now.limit (selection_of (slice_get c.args.self.now.matrix.now c.args.clause.0)) c.start.new.store.store c.start.new.self.tree.steps.items c.start.new.self.tree.goals.items c.start.new.self.tree.open c.new-points.result.items later begun c.args.ledger.now.used c.args.left.now c.new-points.ensures.items (c.in_ok-start.ensures.started c.args.self.now.problem.now c.args.self.now.limit sp.matrix (c.is_start-starts.ensures ∙ ap Some c.if-not-starts.false)) h)

pub returns-in-Closed-clause-budget : goal.returns-in-Closed-clause-budget
returns-in-Closed-clause-budget c = c.visit_cut.ensures.budget

pub returns-clause-end : goal.returns-clause-end
returns-clause-end c = λ later begun sp h. let end = rw c.in-Steps.is at c.in_ok-visit_cut.ensures.end in end _ (selection_of (slice_get c.args.self.now.matrix.now c.args.clause.0)) later begun sp (cut-started c.args.self.now.problem.now c.args.self.now.matrix.now _ c.args.self.now.limit (selection_of (slice_get c.args.self.now.matrix.now c.args.clause.0)) c.start.new.store.store c.start.new.self.tree.steps.items c.start.new.self.tree.goals.items c.start.new.self.tree.open c.new-points.result.items later begun c.args.ledger.now.used c.args.left.now c.new-points.ensures.items (c.in_ok-start.ensures.started c.args.self.now.problem.now c.args.self.now.limit sp.matrix (c.is_start-starts.ensures ∙ ap Some c.if-not-starts.false)) h)

pub returns-clause-counted : goal.returns-clause-counted
returns-clause-counted c = λ later begun sp h. c.visit_cut.ensures.counted _ (selection_of (slice_get c.args.self.now.matrix.now c.args.clause.0)) later begun sp (cut-started c.args.self.now.problem.now c.args.self.now.matrix.now _ c.args.self.now.limit (selection_of (slice_get c.args.self.now.matrix.now c.args.clause.0)) c.start.new.store.store c.start.new.self.tree.steps.items c.start.new.self.tree.goals.items c.start.new.self.tree.open c.new-points.result.items later begun c.args.ledger.now.used c.args.left.now c.new-points.ensures.items (c.in_ok-start.ensures.started c.args.self.now.problem.now c.args.self.now.limit sp.matrix (c.is_start-starts.ensures ∙ ap Some c.if-not-starts.false)) h)

pub returns-clause-budget : goal.returns-clause-budget
returns-clause-budget c = c.visit_cut.ensures.budget
