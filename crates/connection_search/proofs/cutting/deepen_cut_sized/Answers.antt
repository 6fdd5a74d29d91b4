use Rattle.std.proofs.Common.{◌≡◌, ◌+◌, ◌-◌, ◌∙◌, IsTrue, arith, refl, subst}
use Rattle.calculus.specs.Counting.{MoreThan}
use Rattle.calculus.specs.Problems.{is_problem}
use Rattle.calculus.specs.Space.{IsMember, member_cmp}
use Rattle.connection_search.proofs.CutDeepening.{CutTo, cut-to-all, cut-to-counted, cut-to-more, cut-to-none, cut-to-steps, none-before, none-beyond}
use Rattle.search_theory.proofs.CutLimits.{told-itself}
use Rattle.connection_search.proofs.SearchedLaws.{space-of}
use Rattle.connection_search.proofs.cutting.deepen_cut_sized.Goals as goal

pub loop-passed-init : goal.loop-passed-init
loop-passed-init c = record { passed = cut-to-none c.args.problem.now c.args.ledger.now.used; budget = refl }

pub run_cut-requires : goal.run_cut-requires
run_cut-requires c = let l = c.args.cut_limit.to_most in space-of c.args.problem.now c.args.matrix.now (c.loop-passed.passed + 1) (subst (λ P. IsTrue (is_problem P)) c.problem.ensures c.setting-setting.ensures.well) c.requires (omega arith) (omega arith)

pub returns-in_err-run_cut-clause-count : goal.returns-in_err-run_cut-clause-count
returns-in_err-run_cut-clause-count c = λ e k. cut-to-counted c.args.problem.now c.loop-passed.passed c.args.cut_limit.number e c.args.ledger.now.used c.loop-passed.ledger.used c.run_cut.new.ledger.used c.loop-passed.invariant.passed (omega arith) k c.run_cut.ensures.counted

pub returns-in_err-run_cut-clause-rises : goal.returns-in_err-run_cut-clause-rises
returns-in_err-run_cut-clause-rises c = let a = c.loop-passed.invariant.passed.rises in let b = c.run_cut.ensures.counted.0 in omega (arith, a, b)

pub returns-in_err-run_cut-clause-budget : goal.returns-in_err-run_cut-clause-budget
returns-in_err-run_cut-clause-budget c = c.run_cut.ensures.budget ∙ c.loop-passed.invariant.budget

pub returns-in-Closed-clause-count : goal.returns-in-Closed-clause-count
returns-in-Closed-clause-count c = λ e k. cut-to-counted c.args.problem.now c.loop-passed.passed c.args.cut_limit.number e c.args.ledger.now.used c.loop-passed.ledger.used c.run_cut.new.ledger.used c.loop-passed.invariant.passed (omega arith) k c.run_cut.ensures.counted

pub returns-in-Closed-clause-rises : goal.returns-in-Closed-clause-rises
returns-in-Closed-clause-rises c = let a = c.loop-passed.invariant.passed.rises in let b = c.run_cut.ensures.counted.0 in omega (arith, a, b)

pub returns-in-Closed-clause-budget : goal.returns-in-Closed-clause-budget
returns-in-Closed-clause-budget c = c.run_cut.ensures.budget ∙ c.loop-passed.invariant.budget

pub returns-in-Steps-clause-count : goal.returns-in-Steps-clause-count
returns-in-Steps-clause-count c = λ e k. cut-to-counted c.args.problem.now c.loop-passed.passed c.args.cut_limit.number e c.args.ledger.now.used c.loop-passed.ledger.used c.run_cut.new.ledger.used c.loop-passed.invariant.passed (omega arith) k c.run_cut.ensures.counted

pub returns-in-Steps-clause-rises : goal.returns-in-Steps-clause-rises
returns-in-Steps-clause-rises c = let a = c.loop-passed.invariant.passed.rises in let b = c.run_cut.ensures.counted.0 in omega (arith, a, b)

pub returns-in-Steps-clause-budget : goal.returns-in-Steps-clause-budget
returns-in-Steps-clause-budget c = c.run_cut.ensures.budget ∙ c.loop-passed.invariant.budget

pub returns-in-Closed-clause-answer : goal.returns-in-Closed-clause-answer
returns-in-Closed-clause-answer c = let end = rw c.in-Closed.is at c.in_ok-run_cut.ensures.end in
    (omega arith, omega arith, none-before c.args.problem.now c.loop-passed.passed c.args.ledger.now.used c.loop-passed.ledger.used c.loop-passed.invariant.passed, end)

pub returns-in-Steps-clause-answer : goal.returns-in-Steps-clause-answer
returns-in-Steps-clause-answer c = let end = rw c.in-Steps.is at c.in_ok-run_cut.ensures.end in
    λ e k. subst (λ b. MoreThan member_cmp (IsMember c.args.problem.now e) (b - c.args.ledger.now.used)) (end.0 ∙ c.run_cut.ensures.budget ∙ c.loop-passed.invariant.budget) (cut-to-steps c.args.problem.now c.loop-passed.passed c.args.cut_limit.number e c.args.ledger.now.used c.loop-passed.ledger.used c.run_cut.new.ledger.used c.loop-passed.invariant.passed (omega arith) k end.1)

pub returns-in-Steps-clause-ended : goal.returns-in-Steps-clause-ended
returns-in-Steps-clause-ended c = let end = rw c.in-Steps.is at c.in_ok-run_cut.ensures.end in end.0

pub loop-passed-preserved : goal.loop-passed-preserved
loop-passed-preserved c = let none = rw c.in-On.is at c.in_ok-run_cut.ensures.none in
    record {
      passed = cut-to-more c.args.problem.now c.loop-passed.passed c.args.ledger.now.used c.loop-passed.ledger.used c.run_cut.new.ledger.used c.loop-passed.invariant.passed (none (c.loop-passed.passed + 1) (told-itself (c.loop-passed.passed + 1) c.run_cut.new.left)) c.run_cut.ensures.counted;
      budget = c.run_cut.ensures.budget ∙ c.loop-passed.invariant.budget;
    }

pub returns-clause-answer : goal.returns-clause-answer
returns-clause-answer c = λ e a b. c.loop-passed.invariant.passed.none e a (omega (arith, b))

pub returns-clause-count : goal.returns-clause-count
returns-clause-count c = λ e k. let l : c.loop-passed.passed ≡ c.args.cut_limit.number = omega arith in cut-to-all c.args.problem.now c.args.cut_limit.number e c.args.ledger.now.used c.loop-passed.ledger.used (subst (λ n. CutTo c.args.problem.now n c.args.ledger.now.used c.loop-passed.ledger.used) l c.loop-passed.invariant.passed) k

pub returns-clause-rises : goal.returns-clause-rises
returns-clause-rises c = c.loop-passed.invariant.passed.rises

pub returns-clause-budget : goal.returns-clause-budget
returns-clause-budget c = c.loop-passed.invariant.budget

-- nothing shows that the limit is left
pub returns-then-not-left-clause-answer : goal.returns-then-not-left-clause-answer
returns-then-not-left-clause-answer c = let none = rw c.in-On.is at c.in_ok-run_cut.ensures.none in
    λ e a b. none-beyond c.args.problem.now c.loop-passed.passed e c.args.ledger.now.used c.loop-passed.ledger.used c.run_cut.new.left c.loop-passed.invariant.passed c.if-not-left.true none a

pub returns-then-not-left-clause-count : goal.returns-then-not-left-clause-count
returns-then-not-left-clause-count c = λ e k. cut-to-counted c.args.problem.now c.loop-passed.passed c.args.cut_limit.number e c.args.ledger.now.used c.loop-passed.ledger.used c.run_cut.new.ledger.used c.loop-passed.invariant.passed (omega arith) k c.run_cut.ensures.counted

pub returns-then-not-left-clause-rises : goal.returns-then-not-left-clause-rises
returns-then-not-left-clause-rises c = let a = c.loop-passed.invariant.passed.rises in let b = c.run_cut.ensures.counted.0 in omega (arith, a, b)

pub returns-then-not-left-clause-budget : goal.returns-then-not-left-clause-budget
returns-then-not-left-clause-budget c = c.run_cut.ensures.budget ∙ c.loop-passed.invariant.budget
