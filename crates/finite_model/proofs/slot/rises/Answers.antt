use Rattle.std.proofs.Common.{sym, ◌∙◌, arith}
use Rattle.finite_model.proofs.RiseLaws.{rises-on, rises-broken, rises-end}
use Rattle.finite_model.proofs.slot.rises.Goals as goal

pub loop-n-preserved : goal.loop-n-preserved
loop-n-preserved c = sym (rises-on c.loop-n.least c.args.numbers.now c.loop-n.n-index _ (omega arith) c.from-least.ensures (omega arith)) ∙ c.loop-n.invariant

pub returns-then-from-least : goal.returns-then-from-least
returns-then-from-least c = sym (rises-broken c.loop-n.least c.args.numbers.now c.loop-n.n-index _ (omega arith) c.from.ensures (omega arith)) ∙ c.loop-n.invariant

pub returns : goal.returns
returns c = sym (rises-end c.loop-n.least c.args.numbers.now c.loop-n.n-index (omega arith)) ∙ c.loop-n.invariant
