use Rattle.std.proofs.Common.{◌≡◌, ◌/◌, refl, subst, map, arith}
use Rattle.problem_build.specs.Balance.{IsBalanced}
use Rattle.problem_build.specs.Counting.{capped_deeper}
use Rattle.problem_build.proofs.BalanceLaws.{joined-one, joined-halves}
use Rattle.problem_build.proofs.counts.+balanced_nesting.Goals as goal

pub returns-then-count-eq1-clause-balanced : goal.returns-then-count-eq1-clause-balanced
returns-then-count-eq1-clause-balanced t c = λ front back e n.
    joined-one (λ n. n) capped_deeper c.args.nestings.now.items c.pop.new.self.items c.in-Some.nesting front back c.in-Some.ensures.items e (omega arith)

pub returns-clause-balanced : goal.returns-clause-balanced
returns-clause-balanced t c = λ front back e n.
    let h = joined-halves (λ n. n) capped_deeper c.args.nestings.now.items c.balanced_nesting-right.new.nestings.items c.balanced_nesting-left.new.nestings.items c.args.count (c.args.count / 2) c.balanced_nesting-left.result c.balanced_nesting-right.result front back c.balanced_nesting-right.ensures.balanced c.balanced_nesting-left.ensures.balanced refl e n in
    let v : capped_deeper c.balanced_nesting-left.result c.balanced_nesting-right.result ≡ c.saturating_add.result = omega (arith, c.saturating_add.ensures, c.max.ensures) in
    (subst (λ v. IsBalanced capped_deeper (map (λ n. n) back) v) v h.0, h.1)
