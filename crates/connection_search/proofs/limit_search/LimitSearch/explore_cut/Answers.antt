use Rattle.std.proofs.Common.{◌<◌, ◌++◌, ◌∙◌, arith, refl, subst, sym}
use Rattle.plain_laws.proofs.Lists.{no-items}
use Rattle.connection_search.specs.Cutting.{IsCutEnd, IsCutExploring}
use Rattle.search_tree.specs.Weights.{work_left}
use Rattle.connection_search.proofs.CuttingLaws.{cut-failed, passing-counted}
use Rattle.connection_search.proofs.TryingLaws.{on-there}
use Rattle.search_theory.specs.Cutting.{pending_on}
use Rattle.connection_search.proofs.limit_search.LimitSearch.explore_cut.Goals as goal

pub loop-point-init : goal.loop-point-init
loop-point-init c = record { exploring = λ base sides later begun space e. e; budget = refl }

pub next_cut-requires : goal.next_cut-requires
next_cut-requires c = let (base, sides, later, begun, space, e) = c.requires in (base, sides, later, begun, space, (subst (λ ps. IsCutExploring c.args.self.now.problem.now c.args.self.now.matrix.now base c.args.self.now.limit sides c.loop-point.store.store c.loop-point.work.tree.steps.items c.loop-point.work.tree.goals.items ps later begun c.loop-point.ledger.used c.loop-point.left) c.in-Some.ensures.items (c.loop-point.invariant.exploring base sides later begun space e)))

pub returns-in_err-next_cut-clause-counted : goal.returns-in_err-next_cut-clause-counted
returns-in_err-next_cut-clause-counted c = λ base sides later begun space e. c.next_cut.ensures.counted base sides later begun space (subst (λ ps. IsCutExploring c.args.self.now.problem.now c.args.self.now.matrix.now base c.args.self.now.limit sides c.loop-point.store.store c.loop-point.work.tree.steps.items c.loop-point.work.tree.goals.items ps later begun c.loop-point.ledger.used c.loop-point.left) c.in-Some.ensures.items (c.loop-point.invariant.exploring base sides later begun space e))

pub returns-in_err-next_cut-clause-budget : goal.returns-in_err-next_cut-clause-budget
returns-in_err-next_cut-clause-budget c = c.next_cut.ensures.budget ∙ c.loop-point.invariant.budget

pub returns-in-Closed-clause-end : goal.returns-in-Closed-clause-end
returns-in-Closed-clause-end c = λ base sides later begun space e. subst (λ v. IsCutEnd c.args.self.now.problem.now c.args.self.now.limit sides begun c.next_cut.new.ledger.used c.next_cut.new.ledger.budget v) c.in-Closed.is (c.in_ok-next_cut.ensures.end base sides later begun space (subst (λ ps. IsCutExploring c.args.self.now.problem.now c.args.self.now.matrix.now base c.args.self.now.limit sides c.loop-point.store.store c.loop-point.work.tree.steps.items c.loop-point.work.tree.goals.items ps later begun c.loop-point.ledger.used c.loop-point.left) c.in-Some.ensures.items (c.loop-point.invariant.exploring base sides later begun space e)))

pub returns-in-Closed-clause-counted : goal.returns-in-Closed-clause-counted
returns-in-Closed-clause-counted c = λ base sides later begun space e. c.next_cut.ensures.counted base sides later begun space (subst (λ ps. IsCutExploring c.args.self.now.problem.now c.args.self.now.matrix.now base c.args.self.now.limit sides c.loop-point.store.store c.loop-point.work.tree.steps.items c.loop-point.work.tree.goals.items ps later begun c.loop-point.ledger.used c.loop-point.left) c.in-Some.ensures.items (c.loop-point.invariant.exploring base sides later begun space e))

pub returns-in-Closed-clause-budget : goal.returns-in-Closed-clause-budget
returns-in-Closed-clause-budget c = c.next_cut.ensures.budget ∙ c.loop-point.invariant.budget

pub returns-in-Steps-clause-end : goal.returns-in-Steps-clause-end
returns-in-Steps-clause-end c = λ base sides later begun space e. subst (λ v. IsCutEnd c.args.self.now.problem.now c.args.self.now.limit sides begun c.next_cut.new.ledger.used c.next_cut.new.ledger.budget v) c.in-Steps.is (c.in_ok-next_cut.ensures.end base sides later begun space (subst (λ ps. IsCutExploring c.args.self.now.problem.now c.args.self.now.matrix.now base c.args.self.now.limit sides c.loop-point.store.store c.loop-point.work.tree.steps.items c.loop-point.work.tree.goals.items ps later begun c.loop-point.ledger.used c.loop-point.left) c.in-Some.ensures.items (c.loop-point.invariant.exploring base sides later begun space e)))

pub returns-in-Steps-clause-counted : goal.returns-in-Steps-clause-counted
returns-in-Steps-clause-counted c = λ base sides later begun space e. c.next_cut.ensures.counted base sides later begun space (subst (λ ps. IsCutExploring c.args.self.now.problem.now c.args.self.now.matrix.now base c.args.self.now.limit sides c.loop-point.store.store c.loop-point.work.tree.steps.items c.loop-point.work.tree.goals.items ps later begun c.loop-point.ledger.used c.loop-point.left) c.in-Some.ensures.items (c.loop-point.invariant.exploring base sides later begun space e))

pub returns-in-Steps-clause-budget : goal.returns-in-Steps-clause-budget
returns-in-Steps-clause-budget c = c.next_cut.ensures.budget ∙ c.loop-point.invariant.budget

pub loop-point-smaller : goal.loop-point-smaller
loop-point-smaller c =
    let falls = on-there _ _ c.in-On.is c.in_ok-next_cut.ensures.falls in
    subst (λ b. work_left b c.next_cut.new.ledger.used c.next_cut.new.points.items < work_left c.loop-point.ledger.budget c.loop-point.ledger.used c.loop-point.points.items) (sym c.next_cut.ensures.budget)
    (subst (λ ps. work_left c.loop-point.ledger.budget c.next_cut.new.ledger.used c.next_cut.new.points.items < work_left c.loop-point.ledger.budget c.loop-point.ledger.used ps) (sym c.in-Some.ensures.items) falls)

pub loop-point-preserved : goal.loop-point-preserved
loop-point-preserved c = record {
  exploring = λ base sides later begun space e. on-there _ _ c.in-On.is c.in_ok-next_cut.ensures.on base sides later begun space (subst (λ ps. IsCutExploring c.args.self.now.problem.now c.args.self.now.matrix.now base c.args.self.now.limit sides c.loop-point.store.store c.loop-point.work.tree.steps.items c.loop-point.work.tree.goals.items ps later begun c.loop-point.ledger.used c.loop-point.left) c.in-Some.ensures.items (c.loop-point.invariant.exploring base sides later begun space e));
  budget = c.next_cut.ensures.budget ∙ c.loop-point.invariant.budget;
}

pub returns-clause-on : goal.returns-clause-on
returns-clause-on c = λ base sides later begun space e.
    let n = c.loop-point.points.ok.0 in
    let z = c.in_default.ensures.cases.0 in
    cut-failed c.args.self.now.problem.now c.args.self.now.matrix.now base c.args.self.now.limit sides c.loop-point.store.store c.loop-point.work.tree.steps.items c.loop-point.work.tree.goals.items c.loop-point.points.items later begun c.loop-point.ledger.used c.loop-point.left (c.loop-point.invariant.exploring base sides later begun space e) (no-items c.loop-point.points.items (omega (arith, n, z)))

pub returns-clause-counted : goal.returns-clause-counted
returns-clause-counted c = λ base sides later begun space e.
    let now = c.loop-point.invariant.exploring base sides later begun space e in
    passing-counted c.args.self.now.problem.now c.args.self.now.limit (pending_on now.levels ++ later) begun c.loop-point.ledger.used now.passing

pub returns-clause-budget : goal.returns-clause-budget
returns-clause-budget c = c.loop-point.invariant.budget
