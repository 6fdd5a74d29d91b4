use Rattle.std.proofs.Common.{◌≡◌, ◌-◌, ◌<◌, ◌∙◌, arith, refl, subst, sym}
use Rattle.std.proofs.lemmas.Bool.{false≢true}
use Rattle.calculus.specs.Counting.{MoreThan}
use Rattle.calculus.specs.Space.{ComesNoLater, member_cmp}
use Rattle.tableau_core.specs.Numbered.TableauView.{the_tableau}
use Rattle.connection_search.proofs.DeepeningLaws.{deepened-derived, deepened-exhausted, deepened-more, deepened-no_tableau, deepened-none, deepened-steps}
use Rattle.connection_search.proofs.deepening.deepen_sized.Goals as goal

pub loop-passed-init : goal.loop-passed-init
loop-passed-init c = record { passed = deepened-none c.args.problem.now c.args.ledger.now.used; budget = refl }

pub search_sized-requires : goal.search_sized-requires
search_sized-requires c = c.requires

pub returns-in_err-tableau-clause-rises : goal.returns-in_err-tableau-clause-rises
returns-in_err-tableau-clause-rises c = let a = c.loop-passed.invariant.passed.rises in let b = c.search_sized.ensures.rises in omega (arith, a, b)

pub returns-in_err-tableau-clause-budget : goal.returns-in_err-tableau-clause-budget
returns-in_err-tableau-clause-budget c = c.search_sized.ensures.budget ∙ c.loop-passed.invariant.budget

pub returns-in-Closed-clause-answer : goal.returns-in-Closed-clause-answer
returns-in-Closed-clause-answer c =
    let closed = rw c.in-Closed.is at c.in_ok-tableau.ensures.outcome in
    let l : c.loop-passed.passed < c.args.max_limit.number = omega arith in
    (deepened-derived c.args.problem.now c.args.max_limit.number c.loop-passed.passed c.args.ledger.now.used c.loop-passed.ledger.used c.loop-passed.invariant.passed l (record { tableau = the_tableau c.in-Closed.tableau; closed = closed }), closed)

pub returns-in-Closed-clause-rises : goal.returns-in-Closed-clause-rises
returns-in-Closed-clause-rises c = let a = c.loop-passed.invariant.passed.rises in let b = c.search_sized.ensures.rises in omega (arith, a, b)

pub returns-in-Closed-clause-budget : goal.returns-in-Closed-clause-budget
returns-in-Closed-clause-budget c = c.search_sized.ensures.budget ∙ c.loop-passed.invariant.budget

pub returns-in-Steps-clause-answer : goal.returns-in-Steps-clause-answer
returns-in-Steps-clause-answer c =
    let ended = rw c.in-Steps.is at c.in_ok-tableau.ensures.steps in
    let l : c.loop-passed.passed < c.args.max_limit.number = omega arith in
    let more = deepened-steps c.args.problem.now c.loop-passed.passed c.args.ledger.now.used c.loop-passed.ledger.used c.loop-passed.ledger.budget c.loop-passed.invariant.passed ended.1 in
    (l, more.0, subst (λ b. MoreThan member_cmp (ComesNoLater c.args.problem.now c.loop-passed.passed) (b - c.args.ledger.now.used)) c.loop-passed.invariant.budget more.1)

pub returns-in-Steps-clause-ended : goal.returns-in-Steps-clause-ended
returns-in-Steps-clause-ended c = let ended = rw c.in-Steps.is at c.in_ok-tableau.ensures.steps in ended.0

pub returns-in-Steps-clause-rises : goal.returns-in-Steps-clause-rises
returns-in-Steps-clause-rises c = let a = c.loop-passed.invariant.passed.rises in let b = c.search_sized.ensures.rises in omega (arith, a, b)

pub returns-in-Steps-clause-budget : goal.returns-in-Steps-clause-budget
returns-in-Steps-clause-budget c = c.search_sized.ensures.budget ∙ c.loop-passed.invariant.budget

pub returns-then-not-left-clause-answer : goal.returns-then-not-left-clause-answer
returns-then-not-left-clause-answer c =
    let none = rw c.in-Empty.is at c.in_ok-tableau.ensures.outcome in
    let l : c.loop-passed.passed < c.args.max_limit.number = omega arith in
    deepened-no_tableau c.args.problem.now c.args.max_limit.number c.loop-passed.passed c.args.ledger.now.used c.loop-passed.ledger.used c.loop-passed.invariant.passed l none.0 (λ left. false≢true (sym c.if-not-left.true ∙ none.2 left))

pub returns-then-not-left-clause-rises : goal.returns-then-not-left-clause-rises
returns-then-not-left-clause-rises c = let a = c.loop-passed.invariant.passed.rises in let b = c.search_sized.ensures.rises in omega (arith, a, b)

pub returns-then-not-left-clause-budget : goal.returns-then-not-left-clause-budget
returns-then-not-left-clause-budget c = c.search_sized.ensures.budget ∙ c.loop-passed.invariant.budget

pub loop-passed-preserved : goal.loop-passed-preserved
loop-passed-preserved c =
    let none = rw c.in-Empty.is at c.in_ok-tableau.ensures.outcome in
    record {
      passed = deepened-more c.args.problem.now c.loop-passed.passed c.args.ledger.now.used c.loop-passed.ledger.used c.search_sized.new.ledger.used c.loop-passed.invariant.passed none.0 (none.1 c.if-not-left.false) c.search_sized.ensures.rises c.search_sized.ensures.count;
      budget = c.search_sized.ensures.budget ∙ c.loop-passed.invariant.budget;
    }

pub returns-clause-answer : goal.returns-clause-answer
returns-clause-answer c = let l : c.loop-passed.passed ≡ c.args.max_limit.number = omega arith in deepened-exhausted c.args.problem.now c.args.max_limit.number c.loop-passed.passed c.args.ledger.now.used c.loop-passed.ledger.used c.loop-passed.invariant.passed c.args.max_limit.from_one l

pub returns-clause-rises : goal.returns-clause-rises
returns-clause-rises c = c.loop-passed.invariant.passed.rises

pub returns-clause-budget : goal.returns-clause-budget
returns-clause-budget c = c.loop-passed.invariant.budget
