use Rattle.std.proofs.Common.{◌≡◌, ◌-◌, [], arith, refl, subst, sym}
use Rattle.std.specs.Prelude.{IfOk}
use Rattle.calculus.specs.Counting.{AtLeastMany, MoreThan}
use Rattle.calculus.specs.Space.{IsEarly, member_cmp}
use Rattle.search_theory.specs.Matrix.{IsTemplateMatrix}
use Rattle.connection_search.specs.Outcomes.{IfSteps, IsOutcome}
use Rattle.connection_search.proofs.searching.search_with.Goals as goal

pub returns-in_err-sized-clause-count : goal.returns-in_err-sized-clause-count
returns-in_err-sized-clause-count c = ([], record { rising = tt; members = tt }, omega arith)

pub returns-in_err-sized-clause-rises : goal.returns-in_err-sized-clause-rises
returns-in_err-sized-clause-rises c = omega arith

pub returns-in_err-sized-clause-spare : goal.returns-in_err-sized-clause-spare
returns-in_err-sized-clause-spare c = omega arith

pub search_sized-requires : goal.search_sized-requires
search_sized-requires c = subst (λ P. IsTemplateMatrix P c.args.matrix.now) (sym c.in_ok-sized.ensures) c.requires

pub returns-clause-outcome : goal.returns-clause-outcome
returns-clause-outcome c = subst (λ P. IfOk c.search_sized.result (IsOutcome P c.args.limit.number)) c.in_ok-sized.ensures c.search_sized.ensures.outcome

pub returns-clause-steps : goal.returns-clause-steps
returns-clause-steps c = subst (λ P. IfOk c.search_sized.result (λ o. IfSteps o ((c.search_sized.new.ledger.used ≡ c.search_sized.new.ledger.budget) × MoreThan member_cmp (IsEarly P c.args.limit.number) (c.args.ledger.now.budget - c.args.ledger.now.used)))) c.in_ok-sized.ensures c.search_sized.ensures.steps

pub returns-clause-count : goal.returns-clause-count
returns-clause-count c = subst (λ P. AtLeastMany member_cmp (IsEarly P c.args.limit.number) (c.search_sized.new.ledger.used - c.args.ledger.now.used)) c.in_ok-sized.ensures c.search_sized.ensures.count

pub returns-clause-rises : goal.returns-clause-rises
returns-clause-rises c = c.search_sized.ensures.rises

pub returns-clause-budget : goal.returns-clause-budget
returns-clause-budget c = c.search_sized.ensures.budget

pub returns-clause-store : goal.returns-clause-store
returns-clause-store c = c.search_sized.ensures.store

pub returns-clause-spare : goal.returns-clause-spare
returns-clause-spare c = c.search_sized.ensures.spare
