use Rattle.std.proofs.Common.{refl}
use Rattle.derivation_text.proofs.DifferenceLaws.{differ-byte, differ-short}
use Rattle.derivation_text.proofs.difference.first_difference.Goals.{then-i-second-via-then-i-second, then-i-second-via-else-i-second+then-second-i}
use Rattle.derivation_text.proofs.difference.first_difference.Goals as goal

pub returns-then-i-second-clause-some : goal.returns-then-i-second-clause-some
returns-then-i-second-clause-some c = elim c.then-i-second.branch [
  | then-i-second-via-then-i-second w ↦ (differ-short c.args.first.now c.args.second.now c.loop-i.i c.loop-i.line c.loop-i.invariant.0 c.loop-i-test.true w.if-i-second.true).0
  | then-i-second-via-else-i-second+then-second-i w ↦ (differ-byte c.args.first.now c.args.second.now c.loop-i.i c.loop-i.line _ 0 0 c.loop-i.invariant.0 c.loop-i-test.true refl w.if-i-second.false w.if-second-i.true).0
]
