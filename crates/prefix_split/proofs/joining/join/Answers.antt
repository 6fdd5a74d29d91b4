use Rattle.std.proofs.Common.{sym}
use Rattle.prefix_split.proofs.OrderLaws.{equal-begins}
use Rattle.prefix_split.proofs.joining.join.Goals as goal

pub returns : goal.returns
returns c = λ σ value t v h.
    let e = c.in_ok-have_same_label.ensures c.if-not-branch.false σ value t v h in
    c.add-2.ensures value (equal-begins (value c.args.z) (value c.args.y) (sym e)) (c.add.ensures value (equal-begins (value c.args.y) (value c.args.z) e) h)
