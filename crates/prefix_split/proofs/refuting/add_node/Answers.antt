use Rattle.std.proofs.Common.{subst, sym}
use Rattle.prefix_split.specs.Beginnings.{IsRelated}
use Rattle.prefix_split.proofs.GrowingLaws.{step-related}
use Rattle.prefix_split.proofs.refuting.add_node.Goals as goal

pub returns : goal.returns
returns c = λ σ value v h.
    let n = c.node_at-node.result in
    let related = subst (λ r. IsRelated r (value n.parent) (value c.args.u)) (sym c.step_relation-r.ensures) (step-related σ value c.args.nodes.now c.args.u n v c.node_at-node.ensures) in
    c.add_child.ensures value (c.add_above.ensures σ value v related h)
