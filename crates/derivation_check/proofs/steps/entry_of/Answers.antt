use Rattle.std.proofs.Common.{arith}
use Rattle.derivation_check.proofs.Numbers.{numbered-past, numbered-some, numbered-zero}
use Rattle.derivation_check.proofs.steps.entry_of.Goals as goal

pub returns-then-number-eq0 : goal.returns-then-number-eq0
returns-then-number-eq0 c = numbered-zero c.args.branch.now c.args.number c.if-number-eq0.true

pub returns-then-place-branch : goal.returns-then-place-branch
returns-then-place-branch c = numbered-past c.args.branch.now c.args.number c.if-number-eq0.false (omega (arith, c.if-place-branch.true))

pub returns : goal.returns
returns c = numbered-some c.args.branch.now c.args.number c.index-branch-place.result c.if-number-eq0.false (omega (arith, c.if-place-branch.false)) c.index-branch-place.is
