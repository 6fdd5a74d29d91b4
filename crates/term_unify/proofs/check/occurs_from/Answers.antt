use Rattle.std.proofs.Common.{arith}
use Rattle.term_unify.proofs.ClosedLaws.{newer-apart}
use Rattle.term_unify.proofs.check.occurs_from.Goals as goal

pub returns-then-below-v-clause-no : goal.returns-then-below-v-clause-no
returns-then-below-v-clause-no c =
    let l = c.if-r-below.true in
    let m = c.if-below-v.true in
    λ t. newer-apart c.args.below c.args.store.now.store c.args.v.0 c.args.r.0 c.requires.closed (omega (arith, l)) (omega (arith, m))
