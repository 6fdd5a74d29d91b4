use Rattle.std.proofs.Common.{subst, sym}
use Rattle.prefix_split.specs.Beginnings.{IsRelated}
use Rattle.prefix_split.proofs.GrowingLaws.{step-related}
use Rattle.prefix_split.proofs.OrderLaws.{joined-related}
use Rattle.prefix_split.proofs.refuting.add_above.Goals as goal

pub loop-init : goal.loop-init
loop-init c = λ σ value v b h. (h, b)

pub loop-preserved : goal.loop-preserved
loop-preserved c = λ σ value v b h.
    let (held, related) = c.loop.invariant σ value v b h in
    let n = c.node_at-above.result in
    let before = subst (λ r. IsRelated r (value n.parent) (value c.loop.x)) (sym c.step_relation-before.ensures) (step-related σ value c.args.nodes.now c.loop.x n v c.node_at-above.ensures) in
    (c.set.ensures value related held, subst (λ r. IsRelated r (value n.parent) (value c.args.u)) (sym c.joined-r.ensures) (joined-related c.step_relation-before.result c.loop.r (value n.parent) (value c.loop.x) (value c.args.u) before related))

pub returns-then-x-eq0 : goal.returns-then-x-eq0
returns-then-x-eq0 c = λ σ value v b h.
    let (held, related) = c.loop.invariant σ value v b h in
    c.set.ensures value related held

pub returns : goal.returns
returns c = λ σ value v b h. (c.loop.invariant σ value v b h).0
