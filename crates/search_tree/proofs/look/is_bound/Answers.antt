use Rattle.std.proofs.Common.{arith}
use Rattle.search_tree.proofs.look.is_bound.Goals as goal

pub binding-requires : goal.binding-requires
binding-requires c =
    let l = c.if-r-cells.false in
    let n = c.size.ensures.size in
    let k = c.spare.ensures in
    omega (arith, l, n, k)
