use Rattle.cop_sink.proofs.Writing.{all-or-refused, appends-next, round-next, within-next}
use Rattle.cop_sink.proofs.writer.write_out.Goals as goal

pub loop-preserved : goal.loop-preserved
loop-preserved g c = (within-next c.args.bytes.now c.loop.count c.in-Some.n c.loop.invariant.0 c.in-Some.ensures.within, appends-next _ _ _ c.args.bytes.now c.loop.count c.in-Some.n c.loop.invariant.1 c.in-Some.ensures.passed, round-next c.loop.counter c.loop.count c.in-Some.n c.loop.invariant.2 (λ e. (_, _, c.in-Some.ensures.refused e)))

pub returns-clause-refused : goal.returns-clause-refused
returns-clause-refused g c = all-or-refused c.loop.counter c.loop.count _ 18446744073709551615 c.loop.invariant.2 c.loop-test.false c.loop.invariant.0 c.if-prove.false
