use Rattle.std.proofs.Common.{◌≡◌, ◌-◌, ◌∙◌, IsTrue, ap, subst}
use Rattle.calculus.specs.Counting.{MoreThan}
use Rattle.calculus.specs.Problems.{is_problem}
use Rattle.calculus.specs.Space.{IsEarly, member_cmp}
use Rattle.term_store.specs.StoreView.{the_mark}
use Rattle.connection_search.specs.Outcomes.{IfSteps}
use Rattle.connection_search.proofs.SearchedLaws.{ok-map, room-both, space-of, spare-kept, steps-map}
use Rattle.connection_search.proofs.searching.search_sized.Goals as goal

pub run-outcome-requires : goal.run-outcome-requires
run-outcome-requires c = space-of c.args.problem.now c.args.matrix.now c.args.limit.number (subst (λ P. IsTrue (is_problem P)) c.problem.ensures c.setting-setting.ensures.well) c.requires c.args.limit.from_one c.args.limit.to_most

pub undo-requires : goal.undo-requires
undo-requires c = (c.run-outcome.ensures.marks (the_mark c.mark-start.result) c.mark-start.ensures.good).0

pub returns-clause-outcome : goal.returns-clause-outcome
returns-clause-outcome c = c.run-outcome.ensures.outcome

pub returns-clause-steps : goal.returns-clause-steps
returns-clause-steps c =
    let Before : Type 0 = (c.run-outcome.new.ledger.used ≡ c.run-outcome.new.ledger.budget) × MoreThan member_cmp (IsEarly c.args.problem.now c.args.limit.number) (c.run-outcome.new.ledger.used - c.args.ledger.now.used) in
    let After : Type 0 = (c.run-outcome.new.ledger.used ≡ c.run-outcome.new.ledger.budget) × MoreThan member_cmp (IsEarly c.args.problem.now c.args.limit.number) (c.args.ledger.now.budget - c.args.ledger.now.used) in
    ok-map c.run-outcome.result (λ o. IfSteps o Before) (λ o. IfSteps o After)
    (λ o h. steps-map o Before After (λ e. (e.0, subst (MoreThan member_cmp (IsEarly c.args.problem.now c.args.limit.number)) (ap (λ n. n - c.args.ledger.now.used) (e.0 ∙ c.run-outcome.ensures.budget)) e.1)) h)
    c.run-outcome.ensures.steps

pub returns-clause-count : goal.returns-clause-count
returns-clause-count c = c.run-outcome.ensures.counted.1

pub returns-clause-rises : goal.returns-clause-rises
returns-clause-rises c = c.run-outcome.ensures.counted.0

pub returns-clause-budget : goal.returns-clause-budget
returns-clause-budget c = c.run-outcome.ensures.budget

pub returns-clause-store : goal.returns-clause-store
returns-clause-store c = (c.undo.ensures.store ∙ (c.run-outcome.ensures.marks (the_mark c.mark-start.result) c.mark-start.ensures.good).1 ∙ c.mark-start.ensures.whole)

pub returns-clause-spare : goal.returns-clause-spare
returns-clause-spare c = spare-kept c.args.store.now c.undo.new.self (c.undo.ensures.store ∙ (c.run-outcome.ensures.marks (the_mark c.mark-start.result) c.mark-start.ensures.good).1 ∙ c.mark-start.ensures.whole) (room-both c.args.store.now c.run-outcome.new.store c.undo.new.self c.run-outcome.ensures.room c.undo.ensures.room)
