use Rattle.std.proofs.Common.{[], refl, sym, ap, length, arith}
use Rattle.problem_build.proofs.CountingLaws.{capped-chain}
use Rattle.problem_build.proofs.counts.chain_nesting.Goals as goal

pub returns : goal.returns
returns c = λ ns e.
    let l = ap length c.as_slice-count.ensures.value in
    capped-chain c.args.nestings.items ns c.balanced_nesting.result e (c.balanced_nesting.ensures.balanced [] c.args.nestings.items refl (sym l)).0 (omega (arith, l, c.if-count-eq0.false))
