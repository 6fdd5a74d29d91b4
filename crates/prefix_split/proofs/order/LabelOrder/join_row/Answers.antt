use Rattle.std.proofs.Common.{subst, sym}
use Rattle.prefix_split.specs.Beginnings.{IsRelated}
use Rattle.prefix_split.proofs.OrderLaws.{joined-related}
use Rattle.prefix_split.proofs.order.LabelOrder.join_row.Goals as goal

pub returns : goal.returns
returns c = λ value b h.
    let before = c.relation-before.result in
    let related = subst (λ r. IsRelated r (value c.args.x) (value c.args.v)) (sym c.joined-after.ensures) (joined-related before c.args.r (value c.args.x) (value c.args.u) (value c.args.v) (c.relation-before.ensures value h) b) in
    c.compare.ensures value (c.add_row.ensures value related h)
