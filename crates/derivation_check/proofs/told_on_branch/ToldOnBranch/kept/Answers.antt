use Rattle.std.proofs.Common.{◌≡◌, suc, ◌-◌, subst, take, arith}
use Rattle.derivation_check.specs.ToldView.{AreCounted}
use Rattle.derivation_check.proofs.ToldLaws.{cut-counted}
use Rattle.derivation_check.proofs.told_on_branch.ToldOnBranch.kept.Goals as goal

pub returns-then-index-count : goal.returns-then-index-count
returns-then-index-count c =
    let left = c.loop-left.left in
    let one : suc (left - 1) ≡ left = omega (arith, c.loop-left-test.true) in
    subst (λ l. AreCounted c.args.count (take left l)) c.self.view_is
    (subst (λ n. AreCounted c.args.count (take n c.self.inside.labels.entries)) one
    (cut-counted 0 c.args.count (left - 1) c.index.result.now c.self.inside.labels.entries c.self.invariant c.index.ensures c.if-index-count.true))
